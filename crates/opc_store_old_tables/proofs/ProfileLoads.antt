-- What the query on the profiles of an older version reads.
use Rattle.std.proofs.Common.{◌≡◌, List, [], ◌∷◌, map, true, false, Bool, codes, refl, sym, ap, subst, Ordering, Less, Equal, Greater, is_eq, IsPermutation}
use Rattle.std.specs.Cmp.{IsTotalOrder}
use Rattle.std.specs.Ordering.{ordering_then}
use Rattle.std.proofs.lemmas.Cmp.{on_total, then_total, nat_list_cmp_total}
use Rattle.std.proofs.lemmas.List.Sorted.{IsPermutation-map, IsPermutation-sym, IsPermutation-trans}
use Rattle.sqlite.specs.Order.{Row}
use Rattle.sqlite.specs.Query.{output_cmp}
use Rattle.sqlite.specs.declared.types.Value.TheVariants.{Null}
use Rattle.sqlite.specs.Listing.{understood}
use Rattle.sqlite.specs.State.{State as SqlState, Shown}
use Rattle.sqlite_tied.specs.Compute.{everything}
use Rattle.sqlite_value.proofs.OrderLemmas.{value_cmp-Text}
use Rattle.sqlite_keyed.proofs.ListLemmas.{ascending_weaker}
use Rattle.sqlite_keyed.proofs.SortLemmas.{HasNoTies, IsPermutation-sort_by}
use Rattle.opc_store_sql.specs.Order.{Rises}
use Rattle.opc_store_sql.specs.Rows.{HasRows}
use Rattle.opc_store_sql.proofs.Asked.{Asked, IsAsked, by_columns, columns, query, returns, then_less, returned_all_shown}
use Rattle.opc_store_sql.proofs.PutAll.{put_all, put_rises, all_same}
use Rattle.opc_store_sql.proofs.Rows.{all_along}
use Rattle.opc_store_sql.proofs.Sorting.{in_order, no_ties}
use Rattle.opc_names.specs.declared.class.Class.{Class}
use Rattle.opc_names.specs.declared.class.Class.TheVariants.{Console, Opercmds}
use Rattle.opc_names.specs.Spellings.{class_text}
use Rattle.opc_policy_members.specs.declared.profile.Profile.{Profile}
use Rattle.opc_policy_members.specs.Members.{name_cmp}
use Rattle.opc_policy_members.specs.Profiles.{profile_cmp}
use Rattle.opc_state.specs.State.{State}
use Rattle.opc_store_schema.specs.Represented.{definition_row}
use Rattle.opc_store_schema.proofs.AccessLists.{compares_equal}
use Rattle.opc_store_schema.proofs.Decoded.{each_found}
use Rattle.opc_store_schema.proofs.Keys.{profile_total, same_name}
use Rattle.opc_store_old_tables.specs.Tables.{Older, First, Second, old_schema, old_at}
use Rattle.opc_store_old_tables.specs.Old.{RepresentsOld, old_profile_row}
use Rattle.opc_store_old_tables.specs.Read.{AreAmong, text_order, by_text}
use Rattle.opc_store_old_tables.proofs.Held.{held}

abbrev pub profiles : Older → Asked
profiles version = record {
  schema = old_schema version;
  text = codes "SELECT class, pattern, owner, uacc, warning FROM profiles ORDER BY class, pattern";
  tree = (old_at version 15).tree;
  tests = [];
  project = columns 1 5;
  order = by_columns 1 2;
}

pub profiles_asked : (version : Older) → IsAsked (profiles version)
unfolding understood everything
profiles_asked First = record { selects = refl; unlisted = refl; plain = (refl, refl); shows = λ schema base. refl }
profiles_asked Second = record { selects = refl; unlisted = refl; plain = (refl, refl); shows = λ schema base. refl }

-- ---- no two profiles have both texts in common

text_total : IsTotalOrder text_order
text_total = then_total (on_total (λ (p : Profile). class_text p.class) nat_list_cmp_total) (on_total (λ (p : Profile). p.pattern) nat_list_cmp_total)

same_class : (a b : Class) → name_cmp (class_text a) (class_text b) ≡ Equal → a ≡ b
same_class Console Console h = refl
same_class Console Opercmds h = absurd cc
same_class Opercmds Console h = absurd cc
same_class Opercmds Opercmds h = refl

both_equal : (a b : Ordering) → ordering_then a b ≡ Equal → (a ≡ Equal) × (b ≡ Equal)
both_equal Less b h = absurd cc
both_equal Equal b h = (refl, h)
both_equal Greater b h = absurd cc

equal_is : (o : Ordering) → is_eq o ≡ true → o ≡ Equal
equal_is Less h = absurd cc
equal_is Equal h = refl
equal_is Greater h = absurd cc

texts_apart : (p q : Profile) → is_eq (profile_cmp p q) ≡ false → is_eq (text_order p q) ≡ false
texts_apart p q apart = go (is_eq (text_order p q)) refl
  where
    go : (b : Bool) → is_eq (text_order p q) ≡ b → b ≡ false
    go true is =
        let both = both_equal _ _ (equal_is _ is) in
        let tie : is_eq (profile_cmp p q) ≡ true = ap is_eq (compares_equal p q (same_class p.class q.class both.0) (same_name p.pattern q.pattern both.1)) in
        absurd cc
    go false is = refl

module _ (ps : List Profile) (up : Rises profile_cmp ps) where
  apart : HasNoTies text_order text_total ps
  apart = ascending_weaker _ _ texts_apart ps (no_ties profile_cmp profile_total ps up)

  sorted_is : by_text ps ≡ put_all text_order text_total [] ps
  sorted_is = in_order text_order text_total (put_all text_order text_total [] ps) ps
      (put_rises text_order text_total [] ps tt) (all_same text_order text_total ps apart)

  texts_rise : Rises text_order (by_text ps)
  texts_rise = subst (Rises text_order) (sym sorted_is) (put_rises text_order text_total [] ps tt)

  pub same_profiles : IsPermutation ps (by_text ps)
  same_profiles = IsPermutation-sym _ _ (IsPermutation-sort_by text_order text_total ps)

  pub all_among : AreAmong ps (by_text ps)
  all_among = all_along _ ps (by_text ps) same_profiles (each_found ps up)

-- ---- what is read

shows_definition : (version : Older) (p : Profile) → (returns (profiles version) [] (Null ∷ old_profile_row version p)).1 ≡ definition_row p
shows_definition First p = refl
shows_definition Second p = refl

shows_order : (version : Older) (p q : Profile) → text_order p q ≡ Less
    → output_cmp (query (profiles version)) (returns (profiles version) [] (Null ∷ old_profile_row version p))
    (returns (profiles version) [] (Null ∷ old_profile_row version q)) ≡ Less
shows_order First p q h =
    rw (value_cmp-Text (class_text p.class) (class_text q.class), value_cmp-Text p.pattern q.pattern)
    (then_less (name_cmp (class_text p.class) (class_text q.class)) (name_cmp p.pattern q.pattern) h)
shows_order Second p q h =
    rw (value_cmp-Text (class_text p.class) (class_text q.class), value_cmp-Text p.pattern q.pattern)
    (then_less (name_cmp (class_text p.class) (class_text q.class)) (name_cmp p.pattern q.pattern) h)

pub profiles_returned : (version : Older) (old new : SqlState) (s : State) → RepresentsOld version old.now s
    → (rows : List Row) → Shown (profiles version).text [] old new rows
    → rows ≡ map definition_row (by_text s.policy.profiles)
profiles_returned version old new s was rows h =
    let has = held version old.now s was in
    let ps = s.policy.profiles in
    let moved : HasRows (map (old_profile_row version) (by_text ps)) (old.now.trees (old_at version 15).tree) =
    record {
      each = IsPermutation-trans _ _ _ (IsPermutation-map (old_profile_row version) _ _
          (IsPermutation-sym _ _ (same_profiles ps was.state.ordered.profiles))) has.profiles.each;
      kept = has.profiles.kept;
    } in
    returned_all_shown (profiles version) [] refl (old_profile_row version) definition_row text_order
    (shows_definition version) (shows_order version) (λ _. refl) (profiles_asked version) old new has.schema
    (by_text ps) (texts_rise ps was.state.ordered.profiles) moved rows h

-- What the query on an access list of an older version reads.
use Rattle.std.proofs.Common.{◌≡◌, ℕ, List, [], ◌∷◌, ◌++◌, map, filter, codes, None, Some, Option, refl, sym, ap, ap₂, ◌∙◌, Ordering, Less, Equal, Greater}
use Rattle.std.specs.List.{flat_map, AllByRecursion}
use Rattle.std.specs.Option.{option_cmp, option_map_or}
use Rattle.std.specs.Ordering.{ordering_then}
use Rattle.std.proofs.lemmas.List.{map-append}
use Rattle.sqlite.specs.Order.{Row}
use Rattle.sqlite.specs.Term.{lit}
use Rattle.sqlite.specs.declared.types.Value.TheVariants.{Text}
use Rattle.sqlite.specs.Listing.{understood}
use Rattle.sqlite.specs.State.{State as SqlState, Shown}
use Rattle.sqlite_tied.specs.Compute.{everything}
use Rattle.sqlite_value.proofs.OrderLemmas.{value_cmp-Text}
use Rattle.sqlite_keyed.proofs.ListLemmas.{all_both, filter-map, filter_same}
use Rattle.opc_store_sql.specs.Order.{Rises}
use Rattle.opc_store_sql.proofs.Asked.{Asked, IsAsked, by_columns, columns, returned_part_shown}
use Rattle.opc_store_sql.proofs.Keyed.{same_columns}
use Rattle.opc_store_sql.proofs.Parts.{found_one}
use Rattle.opc_names.specs.declared.class.Class.{Class}
use Rattle.opc_policy_members.specs.declared.entry.Entry.{Entry}
use Rattle.opc_policy_members.specs.declared.profile.Profile.{Profile}
use Rattle.opc_policy_members.specs.Access.{entry_cmp}
use Rattle.opc_policy_members.specs.Members.{name_cmp}
use Rattle.opc_policy_members.specs.Profiles.{profile_of, is_of}
use Rattle.opc_state.specs.Changes.{with_batches}
use Rattle.opc_state.specs.Loads.{access_list}
use Rattle.opc_state.specs.State.{State}
use Rattle.opc_store_schema.specs.Represented.{entry_row, entry_rows}
use Rattle.opc_store_schema.proofs.ProfileTexts.{has_profile, profile_key}
use Rattle.opc_store_profiles.proofs.EntryLoads.{list_ordered, list_rows}
use Rattle.opc_store_old_tables.specs.Tables.{Older, First, Second, old_schema, old_at}
use Rattle.opc_store_old_tables.specs.Old.{RepresentsOld, IsPlain, old_entry_row, old_entry_rows}
use Rattle.opc_store_old_tables.proofs.Held.{held}

abbrev pub entries : Older → Asked
entries version = record {
  schema = old_schema version;
  text = codes "SELECT class, pattern, id, '', level FROM entries WHERE class = ?1 AND pattern = ?2 ORDER BY id";
  tree = (old_at version 16).tree;
  tests = same_columns 0 2;
  project = columns 1 3 ++ lit (Text []) ∷ columns 4 1;
  order = by_columns 3 1;
}

pub entries_asked : (version : Older) → IsAsked (entries version)
unfolding understood everything
entries_asked First = record { selects = refl; unlisted = refl; plain = (refl, refl); shows = λ schema base. refl }
entries_asked Second = record { selects = refl; unlisted = refl; plain = (refl, refl); shows = λ schema base. refl }

-- ---- the rows are those of version 3, less the console

abbrev cut : Row → Row
cut (class ∷ pattern ∷ id ∷ console ∷ more) = class ∷ pattern ∷ id ∷ more
cut row = row

cut_rows : (p : Profile) → old_entry_rows p ≡ map cut (entry_rows p)
cut_rows p = go p.entries
  where
    go : (es : List Entry) → map (old_entry_row p.class p.pattern) es ≡ map cut (map (entry_row p.class p.pattern) es)
    go [] = refl
    go (e ∷ es) = ap (λ (l : List Row). old_entry_row p.class p.pattern e ∷ l) (go es)

cut_all : (ps : List Profile) → flat_map old_entry_rows ps ≡ map cut (flat_map entry_rows ps)
cut_all [] = refl
cut_all (p ∷ ps) = ap₂ (λ (a b : List Row). a ++ b) (cut_rows p) (cut_all ps) ∙ sym (map-append cut (entry_rows p) (flat_map entry_rows ps))

module _ (class : Class) (pattern : List ℕ) where
  -- the class and the pattern stay
  same_profile : (row : Row) → has_profile class pattern (cut row) ≡ has_profile class pattern row
  same_profile [] = refl
  same_profile (a ∷ []) = refl
  same_profile (a ∷ b ∷ []) = refl
  same_profile (a ∷ b ∷ c ∷ []) = refl
  same_profile (a ∷ b ∷ c ∷ d ∷ more) = refl

  cut_picked : (ps : List Profile) → filter (has_profile class pattern) (map cut (flat_map entry_rows ps)) ≡ map cut
      (filter (has_profile class pattern) (flat_map entry_rows ps))
  cut_picked ps = filter-map (has_profile class pattern) cut (flat_map entry_rows ps) ∙ ap (map cut) (filter_same _ _ same_profile (flat_map entry_rows ps))

  cut_list : (es : List Entry) → map cut (map (entry_row class pattern) es) ≡ map (old_entry_row class pattern) es
  cut_list [] = refl
  cut_list (e ∷ es) = ap (λ (l : List Row). old_entry_row class pattern e ∷ l) (cut_list es)

  -- as at every console
  abbrev shown : Entry → Row
  shown e = entry_row class pattern (record e { when = None })

  all_shown : (es : List Entry) → AllByRecursion IsPlain es → map shown es ≡ map (entry_row class pattern) es
  all_shown [] h = refl
  all_shown (e ∷ es) h = ap₂ (λ (r : Row) (l : List Row). r ∷ l)
      (ap (λ (w : Option (List ℕ)). entry_row class pattern (record e { when = w })) (sym h.0)) (all_shown es h.1)

-- ---- in the order of their ids

abbrev id_cmp : Entry → Entry → Ordering
id_cmp e f = name_cmp e.id f.id

id_less : (e f : Entry) → IsPlain e → IsPlain f → entry_cmp e f ≡ Less → id_cmp e f ≡ Less
id_less e f plain too h = go (name_cmp e.id f.id)
    (ap₂ (λ (v w : Option (List ℕ)). ordering_then (name_cmp e.id f.id) (option_cmp name_cmp v w)) (sym plain) (sym too)
    ∙ h)
  where
    go : (o : Ordering) → ordering_then o (option_cmp name_cmp None None) ≡ Less → o ≡ Less
    go Less h = refl
    go Equal h = absurd cc
    go Greater h = absurd cc

ids_rise : (es : List Entry) → AllByRecursion IsPlain es → Rises entry_cmp es → Rises id_cmp es
ids_rise [] plain up = tt
ids_rise (e ∷ es) plain up = (
  all_both IsPlain (λ f. entry_cmp e f ≡ Less) (λ f. id_cmp e f ≡ Less) (λ f too less. id_less e f plain.0 too less)
      es plain.1 up.0,
  ids_rise es plain.1 up.1,
)

then_nothing : (o : Ordering) → o ≡ Less → ordering_then o Equal ≡ Less
then_nothing Less h = refl
then_nothing Equal h = absurd cc
then_nothing Greater h = absurd cc

module _ (version : Older) (old new : SqlState) (s : State) (was : RepresentsOld version old.now s) (class : Class) (pattern : List ℕ) where
  abbrev list : List Entry
  list = access_list s.policy class pattern

  list_plain : AllByRecursion IsPlain list
  list_plain = go (profile_of s.policy.profiles class pattern) refl
    where
      go : (o : Option Profile) → profile_of s.policy.profiles class pattern ≡ o → AllByRecursion IsPlain (option_map_or (λ (q : Profile). q.entries) o [])
      go None absent = tt
      go (Some p) here = found_one (λ (q : Profile). AllByRecursion IsPlain q.entries) (is_of class pattern) s.policy.profiles p was.state.entries here

  rows_are : filter (has_profile class pattern) (flat_map old_entry_rows s.policy.profiles) ≡ map (old_entry_row class pattern) list
  rows_are =
      ap (filter (has_profile class pattern)) (cut_all s.policy.profiles)
      ∙ (cut_picked class pattern s.policy.profiles
      ∙ (ap (map cut) (list_rows (with_batches [] s) was.state.ordered class pattern)
      ∙ cut_list class pattern list))

  pub entries_returned : (rows : List Row) → Shown (entries version).text (profile_key class pattern) old new rows → rows ≡ map (entry_row class pattern) list
  entries_returned rows h =
      let has = held version old.now s was in
      returned_part_shown (entries version) (profile_key class pattern) refl (old_entry_row class pattern)
      (shown class pattern) id_cmp (λ _. refl)
      (λ x y less. rw (value_cmp-Text x.id y.id) (then_nothing (name_cmp x.id y.id) less))
      (entries_asked version) old new has.schema (flat_map old_entry_rows s.policy.profiles) list
      (ids_rise list list_plain (list_ordered (with_batches [] s) was.state.ordered class pattern).0) rows_are
      has.entries rows h
      ∙ all_shown class pattern list list_plain

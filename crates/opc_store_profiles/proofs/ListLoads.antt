-- What the query on the access lists of a class reads.
use Rattle.std.proofs.Common.{
  ◌≡◌,
  zero,
  suc,
  List,
  [],
  ◌∷◌,
  ◌&&◌,
  Bool,
  true,
  false,
  cond,
  map,
  filter,
  drop,
  codes,
  refl,
  sym,
  ap,
  ap₂,
  subst,
  ◌∙◌,
  arith,
  add-one,
  Ordering,
  Less,
  Equal,
  Greater,
  is_lt,
  is_gt,
  IsPermutation,
  IsSorted,
  Some,
}
use Rattle.std.specs.List.{AllByRecursion, flat_map}
use Rattle.std.specs.Cmp.{IsTotalOrder}
use Rattle.std.specs.Ordering.{ordering_then, ordering_reverse}
use Rattle.std.specs.Str.{bytes_eq}
use Rattle.std.proofs.lemmas.Cmp.{nat_list_cmp_total, tied_itself, upto}
use Rattle.std.proofs.lemmas.List.Sorted.{IsPermutation-map, IsPermutation-trans}
use Rattle.sqlite.specs.Order.{Row, column}
use Rattle.sqlite.specs.Query.{Output, output_cmp}
use Rattle.sqlite.specs.Listing.{understood}
use Rattle.sqlite.specs.State.{State as SqlState, Shown}
use Rattle.sqlite.specs.Ops.{binary, is_true}
use Rattle.sqlite.specs.declared.types.Value.TheVariants.{Null, Text}
use Rattle.sqlite_sql.specs.declared.ops.BinaryOp.TheVariants.{Compare}
use Rattle.sqlite_sql.specs.declared.ops.CompareOp.TheVariants.{Eq}
use Rattle.sqlite_sql.proofs.QueryLemmas.{output_cmp_total}
use Rattle.sqlite_tied.specs.Compute.{everything}
use Rattle.sqlite_trees.specs.Tree.{IsAscending}
use Rattle.sqlite_value.specs.Order.{value_cmp}
use Rattle.sqlite_value.specs.declared.keys.Collation.TheVariants.{Binary}
use Rattle.sqlite_value.proofs.OrderLemmas.{value_cmp-Text}
use Rattle.sqlite_keyed.proofs.ListLemmas.{
  all_weaker,
  all_both,
  all-filter,
  all-map,
  all-flat_map,
  all_map,
  ascending-filter,
  ascending-map,
  ascending_weaker,
  filter-map,
  filter_same,
  map-map,
  map_same,
  IsPermutation-filter,
}
use Rattle.sqlite_keyed.proofs.SortLemmas.{sorted_unique}
use Rattle.opc_store_sql.specs.Order.{text_cmp}
use Rattle.opc_store_sql.proofs.Asked.{Asked, IsAsked, answers, by_columns, columns, passes_values, picks, query, shows_values, returns, then_less}
use Rattle.opc_store_sql.proofs.Keyed.{same_columns}
use Rattle.opc_store_sql.proofs.Queries.{answered, passes, shown}
use Rattle.opc_store_sql.proofs.Rows.{all_along}
use Rattle.opc_store_sql.proofs.Values.{same_texts}
use Rattle.opc_names.specs.declared.class.Class.{Class}
use Rattle.opc_names.specs.declared.class.Class.TheVariants.{Console, Opercmds}
use Rattle.opc_names.specs.Authority.{same_class}
use Rattle.opc_names.specs.Spellings.{class_text}
use Rattle.opc_policy_members.specs.declared.entry.Entry.{Entry}
use Rattle.opc_policy_members.specs.declared.profile.Profile.{Profile}
use Rattle.opc_policy_members.specs.Profiles.{of_class, profile_of}
use Rattle.opc_state.specs.State.{State}
use Rattle.opc_store_schema.specs.Placed.{entries_at}
use Rattle.opc_store_schema.specs.Represented.{Represents, entry_row, entry_rows, or_empty}
use Rattle.opc_store_schema.specs.State.{IsAccessList, IsOrdered}
use Rattle.opc_store_schema.specs.Tables.{the_schema}
use Rattle.opc_store_schema.proofs.AccessLists.{list_hit, split}
use Rattle.opc_store_schema.proofs.Decoded.{each_found, filter_on}
use Rattle.opc_store_schema.proofs.ProfileTexts.{has_profile}
use Rattle.opc_store_profiles.specs.Lists.{AreByPattern, HasList, HaveLists, is_of, pattern_in}
use Rattle.opc_store_profiles.proofs.EntryLoads.{column_cmp, columns_rise}
use Rattle.opc_store_profiles.proofs.ProfileLoads.{class_params}

abbrev pub lists : Asked
lists = record {
  schema = the_schema;
  text = codes "SELECT class, pattern, id, console, level FROM entries WHERE class = ?1 ORDER BY pattern, id, console";
  tree = entries_at.tree;
  tests = same_columns 0 1;
  project = columns 1 5;
  order = by_columns 2 3;
}

pub lists_asked : IsAsked lists
unfolding understood everything
lists_asked = record { selects = refl; unlisted = refl; plain = (refl, refl); shows = λ schema base. refl }

-- ---- lists in an order

module _ {X : Type 0} (cmp : X → X → Ordering) (total : IsTotalOrder cmp) where
  abbrev AtMost : X → X → Type 0
  AtMost a b = is_gt (cmp a b) ≡ false

  turned : (o : Ordering) → is_lt o ≡ false → is_gt (ordering_reverse o) ≡ false
  turned Less h = h
  turned Equal h = refl
  turned Greater h = refl

  turned_back : (o : Ordering) → is_gt o ≡ false → is_lt (ordering_reverse o) ≡ false
  turned_back Less h = refl
  turned_back Equal h = refl
  turned_back Greater h = h

  below_all : (x : X) (ys : List X) → IsSorted cmp (x ∷ ys) → IsAscending AtMost ys → AllByRecursion (AtMost x) ys
  below_all x [] sorted up = tt
  below_all x (y ∷ ys) sorted up =
      let first : AtMost x y = ap is_gt (total.antisymm x y) ∙ turned _ (sorted 0 x (omega arith) (omega arith)) in
      (first, all_weaker _ (AtMost x) (λ z. upto total x y z first) ys up.0)

  ascends : (xs : List X) → IsSorted cmp xs → IsAscending AtMost xs
  ascends [] sorted = tt
  ascends (x ∷ xs) sorted =
      let tail : IsSorted cmp xs = λ k d p q. rw add-one (rw add-one at (sorted (suc k) d (omega arith) (omega arith))) in
      let up = ascends xs tail in
      (below_all x xs sorted up, up)

  sorts : (xs : List X) → IsAscending AtMost xs → IsSorted cmp xs
  sorts [] up = λ k d p q. absurd (omega arith)
  sorts (x ∷ []) up = λ k d p q. absurd (omega arith)
  sorts (x ∷ y ∷ xs) up = go (sorts (y ∷ xs) up.1)
    where
      go : IsSorted cmp (y ∷ xs) → IsSorted cmp (x ∷ y ∷ xs)
      go more zero d p q = ap is_lt (total.antisymm y x) ∙ turned_back (cmp x y) up.0.0
      go more (suc k) d p q = rw add-one (rw add-one at (more k d (omega arith) (omega arith)))

-- what follows of members about which more is known
ascending_of : {X : Type 0} (F : X → Type 0) (R S : X → X → Type 0) → ((a b : X) → F a → F b → R a b → S a b)
    → (xs : List X) → AllByRecursion F xs → IsAscending R xs → IsAscending S xs
ascending_of F R S weaker [] all up = tt
ascending_of F R S weaker (x ∷ xs) all up = (all_both F (R x) (S x) (λ y fy r. weaker x y all.0 fy r) xs all.1 up.0, ascending_of F R S weaker xs all.1 up.1)

filter_twice : {X : Type 0} (p q : X → Bool) (xs : List X) → filter p (filter q xs) ≡ filter (λ x. q x && p x) xs
filter_twice p q [] = refl
filter_twice {X} p q (x ∷ xs) = go (q x) (p x) refl refl (filter_twice p q xs)
  where
    go : (a b : Bool) → q x ≡ a → p x ≡ b → filter p (filter q xs) ≡ filter (λ y. q y && p y) xs
        → filter p (cond (q x) (x ∷ filter q xs) (filter q xs)) ≡ cond (q x && p x) (x ∷ filter (λ y. q y && p y) xs)
        (filter (λ y. q y && p y) xs)
    go true true a b more = rw (a, b) (ap (λ (l : List X). x ∷ l) more)
    go true false a b more = rw (a, b) more
    go false b a c more = rw a more

all_pass : {X : Type 0} (p : X → Bool) (xs : List X) → AllByRecursion (λ x. p x ≡ true) (filter p xs)
all_pass p [] = tt
all_pass {X} p (x ∷ xs) = go (p x) refl (all_pass p xs)
  where
    go : (b : Bool) → p x ≡ b → AllByRecursion (λ y. p y ≡ true) (filter p xs) → AllByRecursion (λ y. p y ≡ true) (cond b (x ∷ filter p xs) (filter p xs))
    go true e more = (e, more)
    go false e more = more

first_most : (a b : Ordering) → is_gt (ordering_then a b) ≡ false → is_gt a ≡ false
first_most Less b h = refl
first_most Equal b h = refl
first_most Greater b h = h

regrouped : (a b : Bool) → ((a && true) && b) ≡ (a && (b && true))
regrouped true true = refl
regrouped true false = refl
regrouped false b = refl

classes_same : (a b : Class) → same_class a b ≡ true → a ≡ b
classes_same Console Console h = refl
classes_same Console Opercmds h = absurd cc
classes_same Opercmds Console h = absurd cc
classes_same Opercmds Opercmds h = refl

-- ---- the rows that are returned

module _ (s : State) (ordered : IsOrdered s) (class : Class) where
  abbrev ps : List Profile
  ps = s.policy.profiles

  abbrev have : List Row
  have = flat_map entry_rows ps

  abbrev is_picked : Row → Bool
  is_picked v = picks lists (class_params class) (Null ∷ v)

  abbrev returned : Row → Output
  returned v = returns lists (class_params class) (Null ∷ v)

  abbrev cmp : Output → Output → Ordering
  cmp = output_cmp (query lists)

  -- an output of the query: by its pattern first, and shown as it is
  abbrev IsReturned : Output → Type 0
  IsReturned o = column o.0 0 ≡ Text (pattern_in o.1)

  returned_rows : AllByRecursion (λ v. IsReturned (returned v)) have
  returned_rows = all-flat_map (λ v. IsReturned (returned v)) entry_rows ps (all_each ps)
    where
      all_each : (qs : List Profile) → AllByRecursion (λ p. AllByRecursion (λ v. IsReturned (returned v)) (entry_rows p)) qs
      all_each [] = tt
      all_each (q ∷ qs) = (all-map (λ v. IsReturned (returned v)) (entry_row q.class q.pattern) (λ e. refl) q.entries, all_each qs)

  by_pattern : (a b : Output) → IsReturned a → IsReturned b → is_gt (cmp a b) ≡ false → is_gt (text_cmp (pattern_in a.1) (pattern_in b.1)) ≡ false
  by_pattern a b ta tb most =
      sym (ap is_gt (ap₂ value_cmp ta tb ∙ value_cmp-Text (pattern_in a.1) (pattern_in b.1))) ∙ first_most (value_cmp (column a.0 0) (column b.0 0)) _ most

  module _ (ordered_outputs : List Output) (same : IsPermutation (map returned (filter is_picked have)) ordered_outputs)
      (sorted : IsSorted cmp ordered_outputs) where
    abbrev rows : List Row
    rows = map (λ (o : Output). o.1) ordered_outputs

    in_order : IsAscending (λ a b. is_gt (cmp a b) ≡ false) ordered_outputs
    in_order = ascends cmp (output_cmp_total (query lists)) ordered_outputs sorted

    are_returned : AllByRecursion IsReturned ordered_outputs
    are_returned = all_along IsReturned _ ordered_outputs same
        (all_map IsReturned returned (filter is_picked have) (all-filter (λ v. IsReturned (returned v)) is_picked have returned_rows))

    by_patterns : AreByPattern rows
    by_patterns = ascending-map _ (λ (o : Output). o.1) ordered_outputs (ascending_of IsReturned _ _ by_pattern ordered_outputs are_returned in_order)

    module _ (p : Profile) (here : profile_of ps p.class p.pattern ≡ Some p) (mine : p.class ≡ class) (list : IsAccessList p.entries) where
      abbrev of_output : Output → Bool
      of_output o = is_of p.pattern o.1

      abbrev returned_entry : Entry → Output
      returned_entry e = returned (entry_row p.class p.pattern e)

      same_test : (q : Profile)
          → ((is_true (binary (Compare Eq Binary) (Text (class_text q.class)) (Text (class_text class))) && true) && bytes_eq q.pattern p.pattern)
          ≡ (is_true (binary (Compare Eq Binary) (Text (class_text q.class)) (Text (class_text p.class)))
          && (is_true (binary (Compare Eq Binary) (Text q.pattern) (Text p.pattern)) && true))
      same_test q =
          regrouped _ _
          ∙ ap₂ (λ a b. a && (b && true))
          (ap (λ (k : Class). is_true
          (binary (Compare Eq Binary) (Text (class_text q.class)) (Text (class_text k)))) (sym mine))
          (sym (same_texts q.pattern p.pattern))

      same_tests : AllByRecursion (λ v. (is_picked v && of_output (returned v)) ≡ has_profile p.class p.pattern v) have
      same_tests = all-flat_map (λ v. (is_picked v && of_output (returned v)) ≡ has_profile p.class p.pattern v) entry_rows ps (all_each ps)
        where
          all_each : (qs : List Profile)
              → AllByRecursion (λ q. AllByRecursion
              (λ v. (is_picked v && of_output (returned v)) ≡ has_profile p.class p.pattern v) (entry_rows q)) qs
          all_each [] = tt
          all_each (q ∷ qs) = (
            all-map (λ v. (is_picked v && of_output (returned v)) ≡ has_profile p.class p.pattern v)
                (entry_row q.class q.pattern) (λ e. same_test q) q.entries,
            all_each qs,
          )

      picked : filter of_output (map returned (filter is_picked have)) ≡ map returned_entry p.entries
      picked =
          filter-map of_output returned (filter is_picked have)
          ∙ (ap (map returned) (filter_twice (λ v. of_output (returned v)) is_picked have
          ∙ (filter_on _ _ have same_tests
          ∙ list_hit p.class p.pattern ps p (split p.class p.pattern ps p ordered.profiles here)))
          ∙ map-map returned (entry_row p.class p.pattern) p.entries)

      rises : (e f : Entry) → column_cmp e f ≡ Less → cmp (returned_entry e) (returned_entry f) ≡ Less
      rises e f less =
          rw (
            value_cmp-Text p.pattern p.pattern,
            tied_itself nat_list_cmp_total p.pattern,
            value_cmp-Text e.id f.id,
            value_cmp-Text (or_empty e.when) (or_empty f.when),
          )
          (then_less (text_cmp e.id f.id) (text_cmp (or_empty e.when) (or_empty f.when)) less)

      strict : IsAscending (λ a b. cmp a b ≡ Less) (map returned_entry p.entries)
      strict = ascending-map (λ a b. cmp a b ≡ Less) returned_entry p.entries
          (ascending_weaker (λ e f. column_cmp e f ≡ Less) _ rises p.entries (columns_rise p.entries list))

      its_outputs : filter of_output ordered_outputs ≡ map returned_entry p.entries
      its_outputs =
          sorted_unique cmp (output_cmp_total (query lists)) (map returned_entry p.entries) (filter of_output ordered_outputs) strict
          (subst (λ (l : List Output). IsPermutation l (filter of_output ordered_outputs)) picked (IsPermutation-filter of_output _ _ same))
          (sorts cmp (output_cmp_total (query lists)) (filter of_output ordered_outputs) (ascending-filter _ of_output ordered_outputs in_order))

      its_rows : HasList rows p
      its_rows = (
        filter-map (is_of p.pattern) (λ (o : Output). o.1) ordered_outputs
            ∙ (ap (map (λ (o : Output). o.1)) its_outputs ∙ (map-map (λ (o : Output). o.1) returned_entry p.entries ∙ map_same _ _ (λ e. refl) p.entries)),
        list,
      )

    abbrev IsStored : Profile → Type 0
    IsStored p = (profile_of ps p.class p.pattern ≡ Some p) × (p.class ≡ class) × IsAccessList p.entries

    have_lists : (qs : List Profile) → AllByRecursion IsStored qs → AllByRecursion (HasList rows) qs
    have_lists [] all = tt
    have_lists (q ∷ qs) all = (its_rows q all.0.0 all.0.1 all.0.2, have_lists qs all.1)

  abbrev AreStored : List Profile → Type 0
  AreStored = AllByRecursion (λ (p : Profile). (profile_of ps p.class p.pattern ≡ Some p) × (p.class ≡ class) × IsAccessList p.entries)

  stored : AreStored (of_class class ps)
  stored =
      let test = λ (p : Profile). same_class p.class class in
      let found = all-filter (λ (p : Profile). profile_of ps p.class p.pattern ≡ Some p) test ps (each_found ps ordered.profiles) in
      let lists_of = all-filter (λ (p : Profile). IsAccessList p.entries) test ps ordered.entries in
      let both = all_both _ _ (λ (p : Profile). (profile_of ps p.class p.pattern ≡ Some p) × IsAccessList p.entries)
      (λ p a b. (a, b)) (of_class class ps) found lists_of in
      all_both _ _ (λ (p : Profile). (profile_of ps p.class p.pattern ≡ Some p) × (p.class ≡ class)
      × IsAccessList p.entries) (λ p a b. (a.0, classes_same p.class class b, a.1)) (of_class class ps) both
      (all_pass test ps)

pub lists_returned : (old new : SqlState) (s : State) → Represents old.now s → (class : Class) (rows : List Row)
    → Shown lists.text (class_params class) old new rows → HaveLists rows (of_class class s.policy.profiles)
lists_returned old new s was class rows h =
    let params = class_params class in
    let db = old.now.trees in
    let answer = answered lists.tree lists.tests lists.project lists.order db params old.now.schema rows
    (answers the_schema lists.text (query lists) lists_asked params old new was.rows.schema rows h) in
    let values = λ (r : Row). drop 1 r in
    let returned_by = returned s was.ordered class in
    let test = is_picked s was.ordered class in
    let stored_rows : List Row = flat_map entry_rows s.policy.profiles in
    let hits : List Row = filter (passes lists.tree lists.tests lists.project lists.order db params) (db lists.tree) in
    let kept : filter test (map values (db lists.tree)) ≡ map values hits =
    filter-map test values (db lists.tree) ∙ ap (map values) (filter_same _ _ (λ r. sym (passes_values lists params refl db r)) (db lists.tree)) in
    let mine : IsPermutation (filter test stored_rows) (map values hits) =
    subst (λ (l : List Row). IsPermutation (filter test stored_rows) l) kept
    (IsPermutation-filter test _ _ was.rows.holds.entries.each) in
    let theirs : map returned_by (map values hits) ≡ map (shown lists.tree lists.tests lists.project lists.order db params)
    hits = map-map returned_by values hits ∙ map_same _ _ (λ r. sym (shows_values lists params refl db r)) hits in
    let same : IsPermutation (map returned_by (filter test stored_rows)) answer.ordered =
    IsPermutation-trans _ _ _ (IsPermutation-map returned_by _ _ mine) (subst (λ (l : List Output). IsPermutation l answer.ordered) (sym theirs) answer.same) in
    subst (λ (l : List Row). HaveLists l (of_class class s.policy.profiles)) (sym answer.are) (
      by_patterns s was.ordered class answer.ordered same answer.sorted,
      have_lists s was.ordered class answer.ordered same answer.sorted (of_class class s.policy.profiles)
          (stored s was.ordered class),
    )

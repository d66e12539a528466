-- What the statements on profiles do.
use Rattle.std.proofs.Common.{
  ◌≡◌,
  ◌≢◌,
  ℕ,
  suc,
  List,
  [],
  ◌∷◌,
  ◌++◌,
  map,
  filter,
  not,
  ◌==◌,
  drop,
  length,
  Bool,
  true,
  false,
  Option,
  Some,
  None,
  Ok,
  refl,
  sym,
  ap,
  ap₂,
  subst,
  ◌∙◌,
  append_assoc,
  arith,
  IsPermutation,
}
use Rattle.std.specs.List.{flat_map, filter_map, AllByRecursion}
use Rattle.std.specs.Option.{option_map_or}
use Rattle.std.proofs.lemmas.Bool.Decides.{nat_tests}
use Rattle.std.proofs.lemmas.List.{length-map, map-append}
use Rattle.std.proofs.lemmas.List.Sorted.{IsPermutation-sym, IsPermutation-map, IsPermutation-middle}
use Rattle.sqlite.specs.declared.types.Value.TheVariants.{Null}
use Rattle.sqlite.specs.Term.{lit, col}
use Rattle.sqlite.specs.Order.{Row, column}
use Rattle.sqlite.specs.Cast.{cast_row}
use Rattle.sqlite.specs.Edit.{Edit, Applies, edit_of, taken_by}
use Rattle.sqlite.specs.Rowids.TheVariants.{Given}
use Rattle.sqlite.specs.State.{State as SqlState, Executes}
use Rattle.sqlite.specs.Effect.{Database}
use Rattle.sqlite.specs.Table.{Table}
use Rattle.sqlite.specs.Tree.{Trees}
use Rattle.sqlite.proofs.Callers.{one_step}
use Rattle.sqlite_rules.specs.Action.{Work, works, work_by, pairs, deed_for, Writes as WritesEdit}
use Rattle.sqlite_rules.specs.Calls.{ids_of}
use Rattle.sqlite_rules.specs.Lists.{Has}
use Rattle.sqlite_rules.proofs.ListLemmas.{all_has}
use Rattle.sqlite_schema.specs.Rules.{parent_key}
use Rattle.sqlite_schema.specs.Names.{same_name}
use Rattle.sqlite_schema.specs.declared.schema.Reference.{Reference}
use Rattle.sqlite_schema.specs.declared.schema.Keys.TheVariants.{Enforced}
use Rattle.sqlite_value.specs.Keys.{joined}
use Rattle.sqlite_keyed.proofs.ListLemmas.{IsPermutation-flat_map, filter-map, filter_same, filter_none, all_weaker, all_both, all-filter, all_map, all_unmap}
use Rattle.opc_store_sql.specs.Order.{Rises}
use Rattle.opc_store_sql.specs.Rows.{HasRows}
use Rattle.opc_store_sql.proofs.Steps.{cast_null, nothing_goes}
use Rattle.opc_store_sql.proofs.Rows.{all_along, all_pass, taken_all}
use Rattle.opc_store_sql.proofs.Queries.{Lists, passes}
use Rattle.opc_store_sql.proofs.Edits.{ids_same}
use Rattle.opc_store_sql.proofs.OtherTables.{other_at}
use Rattle.opc_store_sql.proofs.Parts.{keeps_all, picked, none_picked}
use Rattle.opc_store_sql.proofs.Calm.{HasNoChild, calm_step}
use Rattle.opc_store_sql.proofs.Written.{Sets, adds, takes_by, sets_by}
use Rattle.opc_names.specs.declared.class.Class.{Class}
use Rattle.opc_names.specs.Names.{IsPattern}
use Rattle.opc_names.specs.Laws.{KeysDiffer}
use Rattle.opc_policy_members.specs.declared.entry.Entry.{Entry}
use Rattle.opc_policy_members.specs.declared.profile.Profile.{Profile}
use Rattle.opc_policy_members.specs.Profiles.{profile_cmp, is_of, profile_of, with_profile, with_definition}
use Rattle.opc_state.specs.Members.{without_profile}
use Rattle.opc_state.specs.State.{State}
use Rattle.opc_state.specs.Changes.{with_profiles}
use Rattle.opc_store_schema.specs.Contents.{Contents}
use Rattle.opc_store_schema.specs.Made.{IsMade}
use Rattle.opc_store_schema.specs.Tables.{the_schema}
use Rattle.opc_store_schema.specs.Placed.{profiles_at, entries_at}
use Rattle.opc_store_schema.specs.Represented.{Represents, Tabulates, contents_of, profile_row, entry_row, entry_rows}
use Rattle.opc_store_schema.proofs.Ordered.{definition_kept}
use Rattle.opc_store_schema.proofs.OtherTables.{with_profiles as spares_profiles, with_entries as spares_entries, spares_all}
use Rattle.opc_store_schema.proofs.ProfileTexts.{
  entry_terms,
  insert_entry,
  insert_entry_is,
  insert_entry_plain,
  entry_cast,
  profile_terms,
  of_profile,
  insert_profile,
  insert_profile_is,
  insert_profile_plain,
  update_profile,
  update_profile_is,
  update_profile_plain,
  delete_profile,
  delete_profile_is,
  delete_profile_plain,
  delete_entries,
  delete_entries_is,
  delete_entries_plain,
  has_profile,
  profile_key,
  profile_below,
  key_below,
  picks_profile,
  profile_cast,
}
use Rattle.opc_store_schema.proofs.AccessLists.{split, entries_left, profiles_left, entries_lack, keeping, same_entries, profile_replaced, comes_in}
use Rattle.opc_store_profiles.proofs.ProfileKeys.{same_rows, profile_works, HasKey, lacks, no_child, lacks_is, IsProfile, keyed, all_profiles}

-- ---- a profile is removed, after its access list

module _ (old new : SqlState) (count : ℕ) (s : State) (class : Class) (pattern : List ℕ) where
  abbrev pub left : List Profile
  left = without_profile class pattern s.policy.profiles

  idle_entries : (olds news : List Row) → works the_schema Enforced 0 entries_at.tree olds news ≡ []
  unfolding same_name joined
  idle_entries olds news = go (length news == 0)
    where
      go : (b : Bool)
          → flat_map (λ (child : Table). filter_map
          (λ (ref : Reference). work_by 0 entries_at.tree (pairs olds news) child ref (deed_for Enforced b ref)
          (parent_key the_schema.tables ref)) child.references) the_schema.tables ≡ []
      go true = refl
      go false = refl

  pub list_goes : Tabulates old.now s → Executes delete_entries (profile_key class pattern) old new (Ok count)
      → IsMade (record (contents_of s) { entries = flat_map entry_rows left }) new.now
  list_goes was h =
      let it = takes_by the_schema delete_entries 16 entries_at (profile_key class pattern) delete_entries_plain refl
      old new was.schema count of_profile (has_profile class pattern) delete_entries_is
      (key_below entries_at.tree class pattern (col 1 0 ∷ []) old.now.trees)
      (λ rows lists writes. one_step the_schema Enforced old.now.trees new.now.trees
      (edit_of old.now.trees entries_at (ids_of rows) Given 0 []) (idle_entries _ []) writes) h in
      spares_entries (contents_of s) old.now new.now was it.spares _
      (subst (λ (l : List Row). HasRows l (new.now.trees entries_at.tree))
      (entries_left class pattern s.policy.profiles) (it.rows _ was.holds.entries))

  module _ (was : IsMade (record (contents_of s) { entries = flat_map entry_rows left }) old.now) where
    abbrev going : List Row → Edit
    going rows = edit_of old.now.trees profiles_at (ids_of rows) Given 0 []

    all_keyed : (rows : List Row) → Lists profiles_at.tree of_profile (col 1 0 ∷ []) [] old.now.trees
        (profile_key class pattern) rows → AllByRecursion (HasKey class pattern) (taken_by old.now.trees (going rows))
    all_keyed rows lists =
        let stored = was.holds.profiles in
        let meets = passes profiles_at.tree of_profile (col 1 0 ∷ []) [] old.now.trees (profile_key class pattern) in
        let each = all_both _ _ (HasKey class pattern)
        (λ r hit is. keyed class pattern r is
        (sym (key_below profiles_at.tree class pattern (col 1 0 ∷ []) old.now.trees r) ∙ hit))
        (filter meets (old.now.trees profiles_at.tree))
        (all_pass meets (old.now.trees profiles_at.tree))
        (all-filter (λ r. IsProfile (drop 1 r)) meets (old.now.trees profiles_at.tree)
        (all_profiles s.policy.profiles (old.now.trees profiles_at.tree) stored)) in
        taken_all (HasKey class pattern) meets (old.now.trees profiles_at.tree) (ids_of rows) stored.kept each
        (ids_same the_schema profiles_at of_profile [] (profile_key class pattern) old.now.trees new.now rows lists)

    no_entry : (r : Row) → Has (old.now.trees entries_at.tree) r → lacks class pattern r ≡ false
    no_entry r here =
        let all = all_unmap (λ v. has_profile class pattern v ≡ false) (λ (r : Row). drop 1 r)
        (old.now.trees entries_at.tree)
        (all_along (λ v. has_profile class pattern v ≡ false) _ _ was.holds.entries.each
        (entries_lack class pattern s.policy.profiles)) in
        sym (lacks_is class pattern r) ∙ all_has (λ r. has_profile class pattern (drop 1 r) ≡ false) (old.now.trees entries_at.tree) r all here

    calm : (rows : List Row) → Lists profiles_at.tree of_profile (col 1 0 ∷ []) [] old.now.trees
        (profile_key class pattern) rows → (now : Trees) → Applies the_schema Enforced old.now.trees (going rows) now
        → (w : Work) → Has (works the_schema Enforced 0 profiles_at.tree (taken_by old.now.trees (going rows)) []) w → HasNoChild now w
    calm rows lists now applied w has = λ r here.
        let on = profile_works (taken_by old.now.trees (going rows)) w has in
        let same : now entries_at.tree ≡ old.now.trees entries_at.tree =
        other_at profiles_at.tree old.now.trees now 16 entries_at the_schema.tables refl refl applied.tables in
        let at : now w.child.tree ≡ old.now.trees entries_at.tree = ap now on.tree ∙ same in
        no_child class pattern (taken_by old.now.trees (going rows)) w r on (all_keyed rows lists) (no_entry r (subst (λ (l : List Row). Has l r) at here))

    pub profile_goes : Executes delete_profile (profile_key class pattern) old new (Ok count) → Tabulates new.now (with_profiles left s)
    profile_goes h =
        let it = takes_by the_schema delete_profile 15 profiles_at (profile_key class pattern) delete_profile_plain refl
        old new was.schema count of_profile (has_profile class pattern) delete_profile_is
        (key_below profiles_at.tree class pattern (col 1 0 ∷ []) old.now.trees)
        (λ rows lists writes. calm_step the_schema Enforced old.now.trees new.now.trees (going rows) (calm rows lists) writes) h in
        spares_profiles (record (contents_of s) { entries = flat_map entry_rows left }) old.now new.now was it.spares _
        (subst (λ (l : List Row). HasRows l (new.now.trees profiles_at.tree)) (profiles_left class pattern s.policy.profiles) (it.rows _ was.holds.profiles))

-- ---- a profile is put

-- if each row that is removed is replaced, no foreign key acts
idle_update : (olds news : List Row) → (length news == 0) ≡ false → works the_schema Enforced 0 profiles_at.tree olds news ≡ []
unfolding same_name joined
idle_update olds news some = go (length news == 0) some
  where
    go : (b : Bool) → b ≡ false → flat_map
        (λ (child : Table). filter_map (λ (ref : Reference). work_by 0 profiles_at.tree (pairs olds news) child ref
        (deed_for Enforced b ref) (parent_key the_schema.tables ref)) child.references) the_schema.tables ≡ []
    go true h = absurd cc
    go false h = refl

not_zero : (n : ℕ) → (suc n == 0) ≡ false
not_zero n = grind (arith, nat_tests)

module _ (old new : SqlState) (count : ℕ) (s : State) (x : Profile) where
  abbrev ps : List Profile
  ps = s.policy.profiles

  abbrev found : Option Profile
  found = profile_of ps x.class x.pattern

  step : (rows : List Row) → WritesEdit the_schema Enforced old.now.trees (record {
    table = profiles_at;
    gone = ids_of rows;
    news = map (λ (r : Row). cast_row profiles_at (drop 1 r)) rows;
  }) (Ok new.now.trees)
      → Applies the_schema Enforced old.now.trees (record {
        table = profiles_at;
        gone = ids_of rows;
        news = map (λ (r : Row). cast_row profiles_at (drop 1 r)) rows;
      }) new.now.trees
  step [] writes = one_step the_schema Enforced old.now.trees new.now.trees (record {
    table = profiles_at;
    gone = [];
    news = [];
  }) (nothing_goes the_schema Enforced profiles_at.tree []) writes
  step (r ∷ rows) writes =
      let news = map (λ (q : Row). cast_row profiles_at (drop 1 q)) (r ∷ rows) in
      let edit : Edit = record { table = profiles_at; gone = ids_of (r ∷ rows); news = news } in
      one_step the_schema Enforced old.now.trees new.now.trees edit (idle_update (taken_by old.now.trees edit) news (not_zero _)) writes

  module _ (was : Tabulates old.now s) (up : Rises profile_cmp ps) (h : Executes update_profile (profile_row x) old new (Ok count)) where
    it : Sets the_schema profiles_at (has_profile x.class x.pattern) (profile_row x) count old.now.trees new.now
    it = sets_by the_schema update_profile 15 profiles_at (profile_row x) update_profile_plain refl old new was.schema
        count of_profile (has_profile x.class x.pattern) profile_terms update_profile_is
        (profile_below x (col 1 0 ∷ col 1 0 ∷ profile_terms) old.now.trees) (profile_row x)
        (λ r. profile_cast x (column r 0)) step h

    counted : count ≡ length (filter (is_of x.class x.pattern) ps)
    counted = it.count_is _ was.holds.profiles
        ∙ (ap length (filter-map _ profile_row ps
        ∙ ap (map profile_row) (filter_same _ _ (picks_profile x.class x.pattern) ps))
        ∙ length-map (filter (is_of x.class x.pattern) ps) profile_row)

    -- it was there, and keeps its access list
    pub profile_set : count ≢ 0 → Tabulates new.now (with_profiles (with_definition x ps) s)
    profile_set some = go found refl
      where
        go : (o : Option Profile) → found ≡ o → Tabulates new.now (with_profiles (with_definition x ps) s)
        go None absent = absurd (let none = none_picked profile_cmp (is_of x.class x.pattern) ps absent in
            let empty = ap length (filter_none (is_of x.class x.pattern) ps none) in let is = counted in omega arith)
        go (Some p) here =
            let parts = split x.class x.pattern ps p up here in
            let defined : with_definition x ps ≡ with_profile (keeping x.class x.pattern x refl refl ps p) ps =
            ap (λ (o : Option Profile). with_profile
            (record x { entries = option_map_or (λ (q : Profile). q.entries) o x.entries }) ps) here in
            let rows = same_rows _ _ _ (profile_replaced x.class x.pattern x refl refl ps p here parts) (it.rows _ was.holds.profiles) in
            let entries : HasRows (flat_map entry_rows (with_profile (keeping x.class x.pattern x refl refl ps p) ps))
            (old.now.trees entries_at.tree) =
            subst (λ (l : List Row). HasRows l (old.now.trees entries_at.tree))
            (sym (same_entries x.class x.pattern x refl refl ps p here parts)) was.holds.entries in
            let c : Contents = record (contents_of s) { entries = flat_map entry_rows (with_profile (keeping x.class x.pattern x refl refl ps p) ps) } in
            let before : IsMade c old.now = spares_entries (contents_of s) old.now old.now was (spares_all _ _ entries_at was) _ entries in
            subst (λ (l : List Profile). Tabulates new.now (with_profiles l s)) (sym defined) (spares_profiles c old.now new.now before it.spares _ rows)

    pub profile_there : count ≢ 0 → (p : Profile) × (found ≡ Some p)
    profile_there some = go found refl
      where
        go : (o : Option Profile) → found ≡ o → (p : Profile) × (found ≡ Some p)
        go None absent = absurd (let none = none_picked profile_cmp (is_of x.class x.pattern) ps absent in
            let empty = ap length (filter_none (is_of x.class x.pattern) ps none) in let is = counted in omega arith)
        go (Some p) here = (p, here)

    -- it was not there, and nothing changes
    pub profile_missed : count ≡ 0 → (found ≡ None) × Tabulates new.now s
    profile_missed none = (
      go found refl,
      spares_profiles (contents_of s) old.now new.now was it.spares _
          (subst (λ (l : List Row). HasRows l (new.now.trees profiles_at.tree)) unchanged
          (it.rows _ was.holds.profiles)),
    )
      where
        go : (o : Option Profile) → found ≡ o → o ≡ None
        go None absent = refl
        go (Some p) here =
            absurd (let one = ap length (picked profile_cmp (is_of x.class x.pattern) ps p
            (split x.class x.pattern ps p up here)) in let is = counted in omega arith)

        unchanged : map (λ (v : Row). profile_row x) (filter (has_profile x.class x.pattern) (map profile_row ps))
            ++ filter (λ v. not (has_profile x.class x.pattern v)) (map profile_row ps) ≡ map profile_row ps
        unchanged =
            let lack = none_picked profile_cmp (is_of x.class x.pattern) ps (go found refl) in
            let lack_rows = all_map (λ v. has_profile x.class x.pattern v ≡ false) profile_row ps
            (all_weaker _ _ (λ p miss. picks_profile x.class x.pattern p ∙ miss) ps lack) in
            ap₂ (λ (a b : List Row). map (λ (v : Row). profile_row x) a ++ b) (filter_none _ _ lack_rows) (keeps_all _ _ lack_rows)

  -- it is added, and its access list is still to come
  pub profile_added : Tabulates old.now s → Executes insert_profile (profile_row x) old new (Ok count)
      → IsMade (record (contents_of s) { profiles = profile_row x ∷ map profile_row ps }) new.now
  profile_added was h =
      let it = adds the_schema insert_profile 15 profiles_at (profile_row x) insert_profile_plain refl old new
      was.schema count (lit Null ∷ profile_terms) 8 insert_profile_is (record {
        uncounted = refl;
        stampless = refl;
      }) (profile_row x) refl (ap₂ (λ v (r : Row). v ∷ r) cast_null (profile_cast x Null)) h in
      spares_profiles (contents_of s) old.now new.now was it.spares _ (it.rows _ was.holds.profiles)

-- one that was there is replaced, and keeps its access list
pub profile_defined : (old new : SqlState) (count : ℕ) (s : State) (x : Profile) → IsPattern x.pattern
    → Represents old.now s → Executes update_profile (profile_row x) old new (Ok count) → count ≢ 0
    → Represents new.now (with_profiles (with_definition x s.policy.profiles) s)
profile_defined old new count s x valid was h some =
    let there = profile_there old new count s x was.rows was.ordered.profiles h some in
    record { ordered = definition_kept s was.ordered x valid there.0 there.1; rows = profile_set old new count s x was.rows was.ordered.profiles h some }

-- a profile that was not there, and its access list, before all others
pub profile_comes : (db : Database) (s : State) (x : Profile) → KeysDiffer → IsPattern x.pattern
    → AllByRecursion (λ (p : Profile). IsPattern p.pattern) s.policy.profiles → Rises profile_cmp s.policy.profiles
    → profile_of s.policy.profiles x.class x.pattern ≡ None
    → IsMade (record (contents_of s) {
      profiles = profile_row x ∷ map profile_row s.policy.profiles;
      entries = entry_rows x ++ flat_map entry_rows s.policy.profiles;
    }) db → Tabulates db (with_profiles (with_definition x s.policy.profiles) s)
profile_comes db s x differ valid patterns up absent was =
    let ps = s.policy.profiles in
    let same = comes_in x.class x.pattern x refl refl ps differ valid patterns absent up in
    let profiles : HasRows (map profile_row (with_profile x ps)) (db.trees profiles_at.tree) =
    same_rows _ _ _ (IsPermutation-map profile_row _ _ same) was.holds.profiles in
    let entries : HasRows (flat_map entry_rows (with_profile x ps)) (db.trees entries_at.tree) =
    same_rows _ _ _ (IsPermutation-flat_map entry_rows _ _ same) was.holds.entries in
    let c : Contents = record (contents_of s) { profiles = profile_row x ∷ map profile_row ps; entries = entry_rows x ++ flat_map entry_rows ps } in
    let one = spares_profiles c db db was (spares_all c db profiles_at was) _ profiles in
    let d : Contents = record c { profiles = map profile_row (with_profile x ps) } in
    let two : Tabulates db (with_profiles (with_profile x ps) s) = spares_entries d db db one (spares_all d db entries_at one) _ entries in
    let defined : with_definition x ps ≡ with_profile x ps =
    ap (λ (o : Option Profile). with_profile
    (record x { entries = option_map_or (λ (q : Profile). q.entries) o x.entries }) ps) absent in
    subst (λ (l : List Profile). Tabulates db (with_profiles l s)) (sym defined) two

-- one more entry, before all others
pub entry_row_added : (old new : SqlState) (count : ℕ) (c : Contents) → IsMade c old.now
    → (class : Class) (pattern : List ℕ) (e : Entry)
    → Executes insert_entry (entry_row class pattern e) old new (Ok count)
    → IsMade (record c { entries = entry_row class pattern e ∷ c.entries }) new.now
entry_row_added old new count c was class pattern e h =
    let it = adds the_schema insert_entry 16 entries_at (entry_row class pattern e) insert_entry_plain refl old new
    was.schema count (lit Null ∷ entry_terms) 6 insert_entry_is (record {
      uncounted = refl;
      stampless = refl;
    }) (entry_row class pattern e) refl (ap₂ (λ v (r : Row). v ∷ r) cast_null (entry_cast class pattern e Null)) h in
    spares_entries c old.now new.now was it.spares _ (it.rows _ was.holds.entries)

-- and after those that came before it
pub entries_so_far : (db : Database) (c : Contents) (class : Class) (pattern : List ℕ) (so_far : List Entry) (e : Entry)
    (more : List Entry) → more ≡ so_far ++ e ∷ []
    → IsMade (record c { entries = entry_row class pattern e ∷ (map (entry_row class pattern) so_far ++ c.entries) }) db
    → IsMade (record c { entries = map (entry_row class pattern) more ++ c.entries }) db
entries_so_far db c class pattern so_far e more is was =
    let row = entry_row class pattern in
    let moved : IsPermutation (row e ∷ (map row so_far ++ c.entries)) (map row so_far ++ row e ∷ c.entries) =
    IsPermutation-sym _ _ (IsPermutation-middle (map row so_far) (row e) c.entries) in
    let joined : map row so_far ++ row e ∷ c.entries ≡ map row more ++ c.entries =
    sym (append_assoc (map row so_far) (row e ∷ []) c.entries)
    ∙ (ap (λ (l : List Row). l ++ c.entries) (sym (map-append row so_far (e ∷ [])))
    ∙ ap (λ (l : List Entry). map row l ++ c.entries) (sym is)) in
    let d : Contents = record c { entries = row e ∷ (map row so_far ++ c.entries) } in
    spares_entries d db db was (spares_all d db entries_at was) _
    (subst (λ (l : List Row). HasRows l (db.trees entries_at.tree)) joined
    (same_rows _ _ _ moved was.holds.entries))

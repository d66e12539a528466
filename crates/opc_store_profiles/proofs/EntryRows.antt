-- What the statements on the entries of access lists do.
use Rattle.std.proofs.Common.{
  ◌≡◌,
  ◌≢◌,
  ℕ,
  List,
  [],
  ◌∷◌,
  ◌++◌,
  map,
  filter,
  not,
  ◌&&◌,
  ◌||◌,
  drop,
  length,
  Bool,
  true,
  false,
  Option,
  Some,
  None,
  Ok,
  refl,
  sym,
  ap,
  ap₂,
  subst,
  ◌∙◌,
  is_eq,
  arith,
  IsPermutation,
  zero,
  suc,
}
use Rattle.std.specs.List.{flat_map, list_any, list_all, AllByRecursion}
use Rattle.std.proofs.lemmas.Bool.{and_parts}
use Rattle.std.proofs.lemmas.List.{length-map}
use Rattle.std.proofs.lemmas.List.Sorted.{
  IsPermutation-sym,
  IsPermutation-trans,
  IsPermutation-map,
  IsPermutation-middle,
  IsPermutation-append_left,
  IsPermutation-append_right,
}
use Rattle.std.proofs.lemmas.Map.Text.{is_eq-slice_cmp}
use Rattle.sqlite.specs.declared.types.Value.TheVariants.{Null, Text}
use Rattle.sqlite.specs.Term.{lit, col}
use Rattle.sqlite.specs.Order.{Row, column}
use Rattle.sqlite.specs.State.{State as SqlState, Executes}
use Rattle.sqlite.specs.Table.{Table}
use Rattle.sqlite.specs.Effect.{Database, IsDatabase}
use Rattle.sqlite.specs.Schema.{Schema}
use Rattle.sqlite.specs.Tree.{Trees}
use Rattle.sqlite_sql.specs.Ops.{is_null}
use Rattle.sqlite_schema.specs.Rules.{has_parent, has_null, equal, Keeps}
use Rattle.std.specs.Option.{option_map_or}
use Rattle.sqlite_schema.specs.Names.{same_name}
use Rattle.sqlite_schema.specs.declared.schema.Constraint.TheVariants.{ForeignKey}
use Rattle.sqlite_value.specs.Keys.{joined, first_key}
use Rattle.sqlite_value.specs.declared.keys.Collation.TheVariants.{Binary}
use Rattle.sqlite_keyed.proofs.ListLemmas.{all_weaker, all_map, all_unmap, any_from_none, IsPermutation-same, all-slice_get}
use Rattle.opc_store_sql.specs.Order.{Rises}
use Rattle.sqlite_trees.specs.declared.store.Store.{Ghosts}
use Rattle.sqlite.specs.Held.{Held, state}
use Rattle.opc_store_sql.specs.Steps.{Puts}
use Rattle.opc_store_sql.specs.Rows.{HasRows}
use Rattle.opc_store_sql.proofs.Steps.{cast_null}
use Rattle.opc_store_sql.proofs.Rows.{all_along}
use Rattle.opc_store_sql.proofs.Sets.{others, replaced_is, one_at, then_eq}
use Rattle.opc_store_sql.proofs.Parts.{none_picked, found_one}
use Rattle.opc_store_sql.proofs.Written.{Sets, Adds, adds, takes, sets}
use Rattle.opc_names.specs.declared.class.Class.{Class}
use Rattle.opc_names.specs.Spellings.{class_text}
use Rattle.opc_policy_members.specs.declared.entry.Entry.{Entry}
use Rattle.opc_policy_members.specs.declared.profile.Profile.{Profile}
use Rattle.opc_policy_members.specs.Access.{entry_cmp, with_entry}
use Rattle.opc_policy_members.specs.Profiles.{profile_cmp, is_of, profile_of, with_profile, with_permission}
use Rattle.opc_state.specs.Members.{without_entry, without_permission}
use Rattle.opc_state.specs.State.{State}
use Rattle.opc_state.specs.Changes.{with_profiles}
use Rattle.opc_store_schema.specs.Contents.{Contents}
use Rattle.opc_store_schema.specs.Made.{IsMade}
use Rattle.opc_store_schema.specs.Tables.{the_schema}
use Rattle.opc_store_schema.specs.Placed.{profiles_at, entries_at}
use Rattle.opc_store_schema.specs.Represented.{Represents, Tabulates, contents_of, profile_row, entry_row, entry_rows, or_empty}
use Rattle.opc_store_schema.proofs.OtherTables.{with_entries as spares_entries}
use Rattle.opc_store_schema.specs.State.{IsNamed, IsAccessList}
use Rattle.opc_store_schema.proofs.Decoded.{filter_on}
use Rattle.opc_store_schema.proofs.Ordered.{permission_ordered}
use Rattle.opc_store_schema.proofs.Keys.{entry_total}
use Rattle.opc_store_schema.proofs.ProfileTexts.{
  entry_terms,
  of_entry,
  insert_entry,
  insert_entry_is,
  insert_entry_plain,
  update_entry,
  update_entry_is,
  update_entry_plain,
  delete_entry,
  delete_entry_is,
  delete_entry_plain,
  has_profile,
  has_entry,
  entry_key,
  entry_below,
  entry_key_below,
  picks_profile,
  entry_cast,
  is_at,
}
use Rattle.opc_store_schema.proofs.AccessLists.{split, Split, is_of_means, listing, split_entries, entries_hit, entries_rest, no_entries, all_entries}
use Rattle.opc_store_profiles.proofs.EntryKeys.{same_rows, idle, after, same_contents, tied_consoles, at_console}

-- ---- an entry is removed

module _ (old new : SqlState) (count : ℕ) (s : State) (was : Tabulates old.now s) (class : Class) (pattern id : List ℕ)
    (when : Option (List ℕ)) (named : when ≢ Some []) where
  pub entry_goes : Rises profile_cmp s.policy.profiles
      → AllByRecursion (λ (p : Profile). IsAccessList p.entries) s.policy.profiles
      → Executes delete_entry (entry_key class pattern id (or_empty when)) old new (Ok count)
      → Tabulates new.now (with_profiles (without_permission class pattern id when s.policy.profiles) s)
  entry_goes up lists_up h = go (profile_of s.policy.profiles class pattern) refl
    where
      left : HasRows (filter (λ v. not (has_entry class pattern id (or_empty when) v)) (flat_map entry_rows s.policy.profiles)) (new.now.trees entries_at.tree)
      left = (takes the_schema delete_entry 16 entries_at (entry_key class pattern id (or_empty when))
          delete_entry_plain refl old new was.schema count of_entry (has_entry class pattern id (or_empty when))
          delete_entry_is (entry_key_below class pattern id (or_empty when) (col 1 0 ∷ []) old.now.trees)
          (λ rows. idle _ []) h).rows _ was.holds.entries

      spared : (rows : List Row) → HasRows rows (new.now.trees entries_at.tree) → IsMade (record (contents_of s) { entries = rows }) new.now
      spared rows has = spares_entries (contents_of s) old.now new.now was
          (takes the_schema delete_entry 16 entries_at (entry_key class pattern id (or_empty when)) delete_entry_plain
          refl old new was.schema count of_entry (has_entry class pattern id (or_empty when)) delete_entry_is
          (entry_key_below class pattern id (or_empty when) (col 1 0 ∷ []) old.now.trees) (λ rows. idle _ []) h).spares
          rows has

      go : (o : Option Profile) → profile_of s.policy.profiles class pattern ≡ o
          → Tabulates new.now (with_profiles (without_permission class pattern id when s.policy.profiles) s)
      go None absent =
          let same : without_permission class pattern id when s.policy.profiles ≡ s.policy.profiles =
          ap (λ (o : Option Profile). option_map_or
          (λ (p : Profile). with_profile (record p { entries = without_entry id when p.entries }) s.policy.profiles)
          o s.policy.profiles) absent in
          subst (λ (l : List Profile). Tabulates new.now (with_profiles l s)) (sym same)
          (spared _ (subst (λ (l : List Row). HasRows l (new.now.trees entries_at.tree))
          (all_entries class pattern id (or_empty when) s.policy.profiles absent) left))
      go (Some p) here =
          let it = split class pattern s.policy.profiles p up here in
          let same : without_permission class pattern id when s.policy.profiles ≡ with_profile
          (listing class pattern s.policy.profiles p it (without_entry id when)) s.policy.profiles =
          ap (λ (o : Option Profile). option_map_or
          (λ (p : Profile). with_profile (record p { entries = without_entry id when p.entries }) s.policy.profiles)
          o s.policy.profiles) here in
          let mine : IsAccessList p.entries = found_one (λ (q : Profile). IsAccessList q.entries) (is_of class pattern) s.policy.profiles p lists_up here in
          let others : filter (λ (e : Entry). not (is_at id (or_empty when) e)) p.entries ≡ without_entry id when
          p.entries = filter_on _ _ p.entries
          (all_weaker IsNamed _ (λ e is. ap not (at_console id when named e is)) p.entries mine.1) in
          let rest = entries_rest class pattern id (or_empty when) s.policy.profiles p it
          ∙ ap (λ (l : List Entry). flat_map entry_rows it.prefix
          ++ (map (entry_row p.class p.pattern) l ++ flat_map entry_rows it.back)) others in
          let rows = subst (λ (l : List Row). HasRows l (new.now.trees entries_at.tree))
          (rest ∙ sym (split_entries class pattern s.policy.profiles p it (without_entry id when))) left in
          subst (λ (l : List Profile). Tabulates new.now (with_profiles l s)) (sym same)
          (subst (λ (c : Contents). IsMade c new.now)
          (sym (same_contents s class pattern p it (without_entry id when))) (spared _ rows))

-- ---- an entry is put

-- one entry row first, and the others of the list after it
module _ (class : Class) (pattern : List ℕ) (ps : List Profile) (p : Profile) (it : Split class pattern ps p) (e : Entry) where
  same_test : IsNamed e → (f : Entry) → IsNamed f → is_eq (entry_cmp f e) ≡ is_at e.id (or_empty e.when) f
  same_test named f is = then_eq _ _ ∙ ap₂ (λ a b. a && b) (is_eq-slice_cmp f.id e.id) (tied_consoles f.when e.when is named)

  same_tests : IsNamed e → (es : List Entry) → AllByRecursion IsNamed es → filter (λ f. is_eq (entry_cmp f e)) es ≡ filter (is_at e.id (or_empty e.when)) es
  same_tests named es all = filter_on _ _ es (all_weaker IsNamed _ (same_test named) es all)

  row_is : entry_row class pattern e ≡ entry_row p.class p.pattern e
  row_is = let mine = is_of_means class pattern p it.passes in ap₂ (λ (c : Class) (t : List ℕ). entry_row c t e) (sym mine.0) (sym mine.1)

  -- the entry, and then all others, are the entries with it
  put_in : IsNamed e → IsAccessList p.entries
      → IsPermutation (entry_row class pattern e
      ∷ filter (λ v. not (has_entry class pattern e.id (or_empty e.when) v)) (flat_map entry_rows ps))
      (flat_map entry_rows (with_profile (listing class pattern ps p it (with_entry e)) ps))
  put_in named list =
      let row = entry_row p.class p.pattern in
      let prefix = flat_map entry_rows it.prefix in
      let back = flat_map entry_rows it.back in
      let rest = filter (λ (f : Entry). not (is_at e.id (or_empty e.when) f)) p.entries in
      let first : entry_row class pattern e
      ∷ filter (λ v. not (has_entry class pattern e.id (or_empty e.when) v)) (flat_map entry_rows ps) ≡ row e
      ∷ (prefix ++ (map row rest ++ back)) =
      ap₂ (λ (a : Row) (l : List Row). a ∷ l) row_is (entries_rest class pattern e.id (or_empty e.when) ps p it) in
      let same : others entry_cmp entry_total e p.entries ≡ rest =
      filter_on _ _ p.entries (all_weaker IsNamed _ (λ f is. ap not (same_test named f is)) p.entries list.1) in
      let mine : IsPermutation (map row (e ∷ rest)) (map row (with_entry e p.entries)) =
      IsPermutation-map row _ _ (subst (λ (l : List Entry). IsPermutation (e ∷ l) (with_entry e p.entries)) same
      (IsPermutation-sym _ _ (replaced_is entry_cmp entry_total e p.entries list.0))) in
      IsPermutation-trans _ _ _ (IsPermutation-same _ _ first)
      (IsPermutation-trans _ _ _ (IsPermutation-sym _ _ (IsPermutation-middle prefix (row e) (map row rest ++ back)))
      (IsPermutation-trans _ _ _ (IsPermutation-append_right prefix _ _ (IsPermutation-append_left back _ _ mine))
      (IsPermutation-same _ _ (sym (split_entries class pattern ps p it (with_entry e))))))

-- The database obeys its foreign keys, so the profile of an entry that is there is there.
refers : (db : Trees) (row : Row) → list_all (has_parent the_schema.tables db row) entries_at.references
    ≡ ((has_null (1 ∷ 2 ∷ []) row || list_any
    (λ parent. equal Binary (column parent 1) (column row 1)
    && (equal Binary (column parent 2) (column row 2) && true)) (db profiles_at.tree)) && true)
unfolding same_name joined first_key
refers db row = refl

abbrev is_child : Trees → Row → Bool
is_child db v = (is_null (column v 0) || (is_null (column v 1) || false))
    || list_any (λ parent. equal Binary (column parent 1) (column v 0)
    && (equal Binary (column parent 2) (column v 1) && true)) (db profiles_at.tree)

child_is : (db : Trees) (row : Row) → list_all (has_parent the_schema.tables db row) entries_at.references ≡ true → is_child db (drop 1 row) ≡ true
child_is db [] hit = (and_parts _ _ (sym (refers db []) ∙ hit)).0
child_is db (v ∷ row) hit = (and_parts _ _ (sym (refers db (v ∷ row)) ∙ hit)).0

no_parent : (class : Class) (pattern : List ℕ) (e : Entry) (ps : List Profile) → profile_of ps class pattern ≡ None
    → (db : Database) → IsDatabase db → db.schema ≡ the_schema → (rest : List Row)
    → HasRows (entry_row class pattern e ∷ rest) (db.trees entries_at.tree) → HasRows (map profile_row ps) (db.trees profiles_at.tree) → ⊥
no_parent class pattern e ps absent db sound is rest has profiles =
    let keys : Keeps ForeignKey the_schema db.trees = subst (λ (sc : Schema). Keeps ForeignKey sc db.trees) is (sound.obeys.rules ForeignKey) in
    let each = all_weaker _ (λ row. is_child db.trees (drop 1 row) ≡ true) (child_is db.trees)
    (db.trees entries_at.tree) (all-slice_get
    (λ (t : Table). AllByRecursion (λ row. list_all (has_parent the_schema.tables db.trees row) t.references ≡ true)
    (db.trees t.tree)) the_schema.tables 16 entries_at refl keys) in
    let values = all_along (λ v. is_child db.trees v ≡ true) _ _ (IsPermutation-sym _ _ has.each)
    (all_map (λ v. is_child db.trees v ≡ true) (λ (r : Row). drop 1 r) (db.trees entries_at.tree) each) in
    let there : is_child db.trees (entry_row class pattern e) ≡ true = values.0 in
    let lack = all_map (λ v. has_profile class pattern v ≡ false) profile_row ps
    (all_weaker _ _ (λ p miss. picks_profile class pattern p ∙ miss) ps
    (none_picked profile_cmp (is_of class pattern) ps absent)) in
    let none = all_weaker _ _ (λ row miss. lacks_parent class pattern row miss) (db.trees profiles_at.tree)
    (all_unmap (λ v. has_profile class pattern v ≡ false) (λ (r : Row). drop 1 r) (db.trees profiles_at.tree)
    (all_along (λ v. has_profile class pattern v ≡ false) _ _ profiles.each lack)) in
    let nowhere : list_any (λ parent. equal Binary (column parent 1) (Text (class_text class))
    && (equal Binary (column parent 2) (Text pattern) && true)) (db.trees profiles_at.tree) ≡ false = any_from_none
    _ (db.trees profiles_at.tree) none in
    absurd cc
  where
    lacks_parent : (class : Class) (pattern : List ℕ) (row : Row) → has_profile class pattern (drop 1 row) ≡ false
        → (equal Binary (column row 1) (Text (class_text class))
        && (equal Binary (column row 2) (Text pattern) && true)) ≡ false
    lacks_parent class pattern [] miss = miss
    lacks_parent class pattern (v ∷ row) miss = miss

module _ (old new : SqlState) (count : ℕ) (s : State) (class : Class) (pattern : List ℕ) (e : Entry) (named : IsNamed e) where
  abbrev ps : List Profile
  ps = s.policy.profiles

  permitted : (o : Option Profile) → profile_of ps class pattern ≡ o
      → with_permission class pattern e ps ≡ option_map_or
      (λ (p : Profile). with_profile (record p { entries = with_entry e p.entries }) ps) o ps
  permitted o is = ap (λ (o : Option Profile). option_map_or (λ (p : Profile). with_profile (record p { entries = with_entry e p.entries }) ps) o ps) is

  module _ (was : Tabulates old.now s) (up : Rises profile_cmp ps)
      (lists_up : AllByRecursion (λ (p : Profile). IsAccessList p.entries) ps)
      (h : Executes update_entry (entry_row class pattern e) old new (Ok count)) where
    it : Sets the_schema entries_at (has_entry class pattern e.id (or_empty e.when)) (entry_row class pattern e) count old.now.trees new.now
    it = sets the_schema update_entry 16 entries_at (entry_row class pattern e) update_entry_plain refl old new
        was.schema count of_entry (has_entry class pattern e.id (or_empty e.when)) entry_terms update_entry_is
        (entry_below class pattern e (col 1 0 ∷ col 1 0 ∷ entry_terms) old.now.trees) (entry_row class pattern e)
        (λ r. entry_cast class pattern e (column r 0)) idle h

    counted : count ≡ length (filter (has_entry class pattern e.id (or_empty e.when)) (flat_map entry_rows ps))
    counted = it.count_is _ was.holds.entries

    both : HasRows (map (λ (v : Row). entry_row class pattern e)
        (filter (has_entry class pattern e.id (or_empty e.when)) (flat_map entry_rows ps))
        ++ filter (λ v. not (has_entry class pattern e.id (or_empty e.when) v)) (flat_map entry_rows ps))
        (new.now.trees entries_at.tree)
    both = it.rows _ was.holds.entries

    none_of : (hit rest : List Row) → length hit ≡ 0
        → HasRows (map (λ (v : Row). entry_row class pattern e) hit ++ rest) (new.now.trees entries_at.tree)
        → HasRows rest (new.now.trees entries_at.tree)
    none_of [] rest none has = has
    none_of (x ∷ hit) rest none has = absurd (omega arith)

    one_of : (hit rest : List Row) → length hit ≡ 1
        → HasRows (map (λ (v : Row). entry_row class pattern e) hit ++ rest) (new.now.trees entries_at.tree)
        → HasRows (entry_row class pattern e ∷ rest) (new.now.trees entries_at.tree)
    one_of [] rest one has = absurd (omega arith)
    one_of (x ∷ []) rest one has = has
    one_of (x ∷ y ∷ hit) rest one has = absurd (omega arith)

    -- it was there, and is replaced
    entry_set : count ≢ 0 → Tabulates new.now (with_profiles (with_permission class pattern e ps) s)
    entry_set some = go (profile_of ps class pattern) refl
      where
        go : (o : Option Profile) → profile_of ps class pattern ≡ o → Tabulates new.now (with_profiles (with_permission class pattern e ps) s)
        go None absent = absurd (let empty = ap length (no_entries class pattern e.id (or_empty e.when) ps absent) in let is = counted in omega arith)
        go (Some p) here =
            let parts = split class pattern ps p up here in
            let mine : IsAccessList p.entries = found_one (λ (q : Profile). IsAccessList q.entries) (is_of class pattern) ps p lists_up here in
            let hits : length (filter (has_entry class pattern e.id (or_empty e.when)) (flat_map entry_rows ps))
            ≡ length (filter (λ f. is_eq (entry_cmp f e)) p.entries) =
            ap length (entries_hit class pattern e.id (or_empty e.when) ps p parts)
            ∙ (length-map (filter (is_at e.id (or_empty e.when)) p.entries) (entry_row p.class p.pattern)
            ∙ ap length (sym (same_tests class pattern ps p parts e named p.entries mine.1))) in
            let once = one_at entry_cmp entry_total e p.entries mine.0 in
            let is = counted in
            let rows = same_rows _ _ _ (put_in class pattern ps p parts e named mine) (one_of _ _ (omega arith) both) in
            subst (λ (l : List Profile). Tabulates new.now (with_profiles l s)) (sym (permitted (Some p) here))
            (subst (λ (c : Contents). IsMade c new.now) (sym (same_contents s class pattern p parts (with_entry e)))
            (spares_entries (contents_of s) old.now new.now was it.spares _ rows))

    -- it was not there, and nothing changes
    entry_missed : count ≡ 0
        → IsMade (record (contents_of s)
        { entries = filter (λ v. not (has_entry class pattern e.id (or_empty e.when) v)) (flat_map entry_rows ps) })
        new.now
    entry_missed none = spares_entries (contents_of s) old.now new.now was it.spares _ (none_of _ _ (sym counted ∙ none) both)

  -- ---- it is added: then its profile is there, or the database would not have taken it

  module _ (was : IsMade (record (contents_of s)
      { entries = filter (λ v. not (has_entry class pattern e.id (or_empty e.when) v)) (flat_map entry_rows ps) })
      old.now) (up : Rises profile_cmp ps)
      (lists_up : AllByRecursion (λ (p : Profile). IsAccessList p.entries) ps) where
    entry_added : Executes insert_entry (entry_row class pattern e) old new (Ok count)
        → Tabulates new.now (with_profiles (with_permission class pattern e ps) s)
    entry_added h = go (profile_of ps class pattern) refl
      where
        it : Adds the_schema entries_at (entry_row class pattern e) old.now.trees new.now
        it = adds the_schema insert_entry 16 entries_at (entry_row class pattern e) insert_entry_plain refl old new
            was.schema count (lit Null ∷ entry_terms) 6 insert_entry_is (record {
              uncounted = refl;
              stampless = refl;
            }) (entry_row class pattern e) refl (ap₂ (λ v (r : Row). v ∷ r) cast_null (entry_cast class pattern e Null)) h

        more : HasRows (entry_row class pattern e
            ∷ filter (λ v. not (has_entry class pattern e.id (or_empty e.when) v)) (flat_map entry_rows ps))
            (new.now.trees entries_at.tree)
        more = it.rows _ was.holds.entries

        made : IsMade (record (contents_of s) {
          entries = entry_row class pattern e
              ∷ filter (λ v. not (has_entry class pattern e.id (or_empty e.when) v)) (flat_map entry_rows ps);
        }) new.now
        made = spares_entries (record (contents_of s)
            { entries = filter (λ v. not (has_entry class pattern e.id (or_empty e.when) v)) (flat_map entry_rows ps) })
            old.now new.now was it.spares _ more

        go : (o : Option Profile) → profile_of ps class pattern ≡ o → Tabulates new.now (with_profiles (with_permission class pattern e ps) s)
        go None absent = absurd (no_parent class pattern e ps absent new.now made.sound made.schema _ more made.holds.profiles)
        go (Some p) here =
            let parts = split class pattern ps p up here in
            let mine : IsAccessList p.entries = found_one (λ (q : Profile). IsAccessList q.entries) (is_of class pattern) ps p lists_up here in
            let rows = same_rows _ _ _ (put_in class pattern ps p parts e named mine) more in
            subst (λ (l : List Profile). Tabulates new.now (with_profiles l s)) (sym (permitted (Some p) here))
            (subst (λ (c : Contents). IsMade c new.now) (sym (same_contents s class pattern p parts (with_entry e)))
            (spares_entries (record (contents_of s) {
              entries = filter (λ v. not (has_entry class pattern e.id (or_empty e.when) v))
                  (flat_map entry_rows ps);
            }) old.now new.now was it.spares _ rows))

-- ---- a row is put at its key

pub entry_put : {S : Type 0} (g : Ghosts S) (old new : Held S) (s : State) → Represents (state g old).now s
    → (class : Class) (pattern : List ℕ) (e : Entry) → IsNamed e
    → Puts g update_entry insert_entry (entry_row class pattern e) old new
    → Represents (state g new).now (with_profiles (with_permission class pattern e s.policy.profiles) s)
entry_put {S = S} g old new s was class pattern e named h = record { ordered = permission_ordered s was.ordered class pattern e named; rows = go h.found refl }
  where
    after_put : State
    after_put = with_profiles (with_permission class pattern e s.policy.profiles) s

    go : (found : ℕ) → h.found ≡ found → Tabulates (state g new).now after_put
    go zero none =
        let missed = entry_missed (state g old) (state g h.mid) h.found s class pattern e named was.rows
        was.ordered.profiles was.ordered.entries h.updates.executes none in
        let added = h.inserts none in
        entry_added (state g h.mid) (state g new) added.0 s class pattern e named missed was.ordered.profiles was.ordered.entries added.1.executes
    go (suc n) some =
        let there : h.found ≢ 0 = λ none. absurd (omega (arith, some, none)) in
        subst (λ (c : Held S). Tabulates (state g c).now after_put) (sym (h.ends there))
        (entry_set (state g old) (state g h.mid) h.found s class pattern e named was.rows was.ordered.profiles was.ordered.entries h.updates.executes there)

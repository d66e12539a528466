-- What the queries on access lists read.
use Rattle.std.proofs.Common.{
  ◌≡◌,
  ◌≢◌,
  ◌==◌,
  ℕ,
  zero,
  suc,
  pos,
  List,
  [],
  ◌∷◌,
  map,
  filter,
  take,
  length,
  not,
  codes,
  refl,
  ap,
  ap₂,
  ◌∙◌,
  Ordering,
  Less,
  Equal,
  Greater,
  Option,
  Some,
  None,
}
use Rattle.std.specs.List.{flat_map, list_any, AllByRecursion}
use Rattle.std.specs.Option.{option_cmp, option_map_or}
use Rattle.std.specs.Ordering.{ordering_then}
use Rattle.std.specs.Str.{bytes_eq}
use Rattle.std.proofs.lemmas.List.{take-map}
use Rattle.sqlite.specs.Order.{Row}
use Rattle.sqlite.specs.Term.{col, op2}
use Rattle.sqlite.specs.declared.types.Value.TheVariants.{Int, Text}
use Rattle.sqlite.specs.Listing.{understood}
use Rattle.sqlite.specs.State.{State as SqlState, Shown}
use Rattle.sqlite_sql.specs.declared.ops.BinaryOp.TheVariants.{Compare}
use Rattle.sqlite_sql.specs.declared.ops.CompareOp.TheVariants.{Eq}
use Rattle.sqlite_value.specs.declared.keys.Collation.TheVariants.{Binary}
use Rattle.sqlite_keyed.proofs.ListLemmas.{all_both, all_weaker, ascending-filter, filter_none}
use Rattle.sqlite_tied.specs.Compute.{everything}
use Rattle.sqlite_value.proofs.OrderLemmas.{value_cmp-Text}
use Rattle.opc_store_sql.specs.Order.{Rises}
use Rattle.opc_store_sql.proofs.Asked.{Asked, IsAsked, IsPaged, by_columns, columns, returned_part}
use Rattle.opc_store_sql.proofs.Keyed.{same_columns}
use Rattle.opc_store_sql.proofs.Limited.{any_flat_map, any_map, one_row, part_first, returned_any}
use Rattle.opc_store_sql.proofs.Parts.{found_one, none_picked}
use Rattle.opc_store_sql.proofs.Values.{and_true, same_texts}
use Rattle.opc_names.specs.declared.class.Class.{Class}
use Rattle.opc_names.specs.Spellings.{class_text}
use Rattle.opc_policy_members.specs.declared.entry.Entry.{Entry}
use Rattle.opc_policy_members.specs.declared.profile.Profile.{Profile}
use Rattle.opc_policy_members.specs.Access.{entry_cmp, is_for}
use Rattle.opc_policy_members.specs.Members.{name_cmp}
use Rattle.opc_policy_members.specs.Profiles.{profile_cmp, profile_of, is_of}
use Rattle.opc_state.specs.Loads.{access_list}
use Rattle.opc_state.specs.Loads as loads
use Rattle.opc_state.specs.State.{State}
use Rattle.opc_store_schema.specs.State.{IsOrdered, IsNamed, IsAccessList}
use Rattle.opc_store_schema.specs.Placed.{entries_at}
use Rattle.opc_store_schema.specs.Tables.{the_schema}
use Rattle.opc_store_schema.specs.Represented.{Represents, or_empty, entry_row, entry_rows}
use Rattle.opc_store_schema.proofs.AccessLists.{split, lack, list_hit, is_of_means, entries_hit, no_entries}
use Rattle.opc_store_schema.proofs.Decoded.{filter_on}
use Rattle.opc_store_schema.proofs.ProfileTexts.{entry_key, has_entry, has_profile, is_at, of_entry, profile_key}
use Rattle.opc_store_profiles.proofs.EntryKeys.{at_console}

abbrev pub entries : Asked
entries = record {
  schema = the_schema;
  text = codes "SELECT class, pattern, id, console, level FROM entries WHERE class = ?1 AND pattern = ?2 ORDER BY id, console";
  tree = entries_at.tree;
  tests = same_columns 0 2;
  project = columns 1 5;
  order = by_columns 3 2;
}

pub entries_asked : IsAsked entries
unfolding understood everything
entries_asked = record { selects = refl; unlisted = refl; plain = (refl, refl); shows = λ schema base. refl }

-- entries by the texts of their columns
abbrev pub column_cmp : Entry → Entry → Ordering
column_cmp e f = ordering_then (name_cmp e.id f.id) (name_cmp (or_empty e.when) (or_empty f.when))

console_less : (a b : Option (List ℕ)) → b ≢ Some [] → option_cmp name_cmp a b ≡ Less → name_cmp (or_empty a) (or_empty b) ≡ Less
console_less None None named h = absurd cc
console_less None (Some []) named h = absurd (named refl)
console_less None (Some (c ∷ cs)) named h = refl
console_less (Some a) None named h = absurd cc
console_less (Some a) (Some b) named h = h

-- the entry at every console, whose console is no text, comes first there too
column_less : (e f : Entry) → entry_cmp e f ≡ Less → IsNamed f → column_cmp e f ≡ Less
column_less e f h named = go (name_cmp e.id f.id) h
  where
    go : (o : Ordering) → ordering_then o (option_cmp name_cmp e.when f.when) ≡ Less → ordering_then o (name_cmp (or_empty e.when) (or_empty f.when)) ≡ Less
    go Less h = refl
    go Equal h = console_less e.when f.when named h
    go Greater h = absurd cc

pub columns_rise : (es : List Entry) → IsAccessList es → Rises column_cmp es
columns_rise [] list = tt
columns_rise (e ∷ es) list = (
  all_both (λ f. entry_cmp e f ≡ Less) IsNamed (λ f. column_cmp e f ≡ Less) (column_less e) es list.0.0 list.1.1,
  columns_rise es (list.0.1, list.1.1),
)

then_less : (a b : Ordering) → ordering_then a b ≡ Less → ordering_then a (ordering_then b Equal) ≡ Less
then_less Less b h = refl
then_less Equal Less h = refl
then_less Equal Equal h = absurd cc
then_less Equal Greater h = absurd cc
then_less Greater b h = absurd cc

pub taken : {X : Type 0} (P : X → Type 0) (n : ℕ) (xs : List X) → AllByRecursion P xs → AllByRecursion P (take n xs)
taken P zero [] all = tt
taken P zero (x ∷ xs) all = tt
taken P (suc n) [] all = tt
taken P (suc n) (x ∷ xs) all = (all.0, taken P n xs all.1)

taken_rises : (n : ℕ) (es : List Entry) → Rises entry_cmp es → Rises entry_cmp (take n es)
taken_rises zero [] up = tt
taken_rises zero (e ∷ es) up = tt
taken_rises (suc n) [] up = tt
taken_rises (suc n) (e ∷ es) up = (taken (λ f. entry_cmp e f ≡ Less) n es up.0, taken_rises n es up.1)

-- the first entries of an access list are one
pub first_listed : (n : ℕ) (es : List Entry) → IsAccessList es → IsAccessList (take n es)
first_listed n es list = (taken_rises n es list.0, taken IsNamed n es list.1)

module _ (s : State) (ordered : IsOrdered s) (class : Class) (pattern : List ℕ) where
  abbrev list : List Entry
  list = access_list s.policy class pattern

  pub list_ordered : IsAccessList list
  list_ordered = go (profile_of s.policy.profiles class pattern) refl
    where
      go : (o : Option Profile) → profile_of s.policy.profiles class pattern ≡ o → IsAccessList (option_map_or (λ (q : Profile). q.entries) o [])
      go None absent = (tt, tt)
      go (Some p) here = found_one (λ (q : Profile). IsAccessList q.entries) (is_of class pattern) s.policy.profiles p ordered.entries here

  -- its rows are those of the class and the pattern
  pub list_rows : filter (has_profile class pattern) (flat_map entry_rows s.policy.profiles) ≡ map (entry_row class pattern) list
  list_rows = go (profile_of s.policy.profiles class pattern) refl
    where
      go : (o : Option Profile) → profile_of s.policy.profiles class pattern ≡ o
          → filter (has_profile class pattern) (flat_map entry_rows s.policy.profiles) ≡ map (entry_row class pattern)
          (option_map_or (λ (q : Profile). q.entries) o [])
      go None absent = filter_none _ _ (lack class pattern s.policy.profiles (none_picked profile_cmp (is_of class pattern) s.policy.profiles absent))
      go (Some p) here =
          let it = split class pattern s.policy.profiles p ordered.profiles here in
          let means = is_of_means class pattern p it.passes in
          list_hit class pattern s.policy.profiles p it ∙ ap₂ (λ (k : Class) (n : List ℕ). map (entry_row k n) p.entries) means.0 means.1

  -- and of these, those for an id and a console
  entry_hit : (id console : List ℕ) → filter (has_entry class pattern id console)
      (flat_map entry_rows s.policy.profiles) ≡ map (entry_row class pattern) (filter (is_at id console) list)
  entry_hit id console = go (profile_of s.policy.profiles class pattern) refl
    where
      go : (o : Option Profile) → profile_of s.policy.profiles class pattern ≡ o
          → filter (has_entry class pattern id console) (flat_map entry_rows s.policy.profiles) ≡ map
          (entry_row class pattern) (filter (is_at id console) (option_map_or (λ (q : Profile). q.entries) o []))
      go None absent = no_entries class pattern id console s.policy.profiles absent
      go (Some p) here =
          let it = split class pattern s.policy.profiles p ordered.profiles here in
          let means = is_of_means class pattern p it.passes in
          entries_hit class pattern id console s.policy.profiles p it
          ∙ ap₂ (λ (k : Class) (n : List ℕ). map (entry_row k n) (filter (is_at id console) p.entries)) means.0
          means.1

-- ---- the whole list

pub entries_returned : (old new : SqlState) (s : State) → Represents old.now s
    → (class : Class) (pattern : List ℕ) (rows : List Row) → Shown entries.text (profile_key class pattern) old new rows
    → rows ≡ map (entry_row class pattern) (access_list s.policy class pattern)
entries_returned old new s was class pattern =
    returned_part entries (profile_key class pattern) refl (entry_row class pattern) column_cmp (λ _. refl)
    (λ x y less. rw (value_cmp-Text x.id y.id, value_cmp-Text (or_empty x.when) (or_empty y.when))
    (then_less (name_cmp x.id y.id) (name_cmp (or_empty x.when) (or_empty y.when)) less))
    entries_asked old new was.rows.schema (flat_map entry_rows s.policy.profiles) (access_list s.policy class pattern)
    (columns_rise _ (list_ordered s was.ordered class pattern)) (list_rows s was.ordered class pattern)
    was.rows.holds.entries

-- ---- at most this many entries

abbrev pub first_entries : Asked
first_entries = record entries {
  text = codes "SELECT class, pattern, id, console, level FROM entries WHERE class = ?1 AND pattern = ?2 ORDER BY id, console LIMIT ?3";
}

pub first_entries_asked : IsPaged first_entries (col 0 2)
unfolding understood everything
first_entries_asked = record { selects = refl; unlisted = refl; plain = (refl, refl); shows = λ schema base. refl }

pub first_entries_returned : (old new : SqlState) (s : State) → Represents old.now s
    → (class : Class) (pattern : List ℕ) (most : ℕ) (rows : List Row)
    → Shown first_entries.text (Text (class_text class) ∷ Text pattern ∷ Int (pos most) ∷ []) old new rows
    → rows ≡ map (entry_row class pattern) (take most (access_list s.policy class pattern))
first_entries_returned old new s was class pattern most rows h =
    part_first first_entries (Text (class_text class) ∷ Text pattern ∷ Int (pos most) ∷ []) refl (entry_row class pattern) column_cmp (λ _. refl)
    (λ x y less. rw (value_cmp-Text x.id y.id, value_cmp-Text (or_empty x.when) (or_empty y.when))
    (then_less (name_cmp x.id y.id) (name_cmp (or_empty x.when) (or_empty y.when)) less)) (col 0 2)
    first_entries_asked old new was.rows.schema (flat_map entry_rows s.policy.profiles)
    (access_list s.policy class pattern) (columns_rise _ (list_ordered s was.ordered class pattern))
    (list_rows s was.ordered class pattern) was.rows.holds.entries rows h
    ∙ take-map (entry_row class pattern) most (access_list s.policy class pattern)

-- ---- that for an id and a console

abbrev pub entry : Asked
entry = record entries {
  text = codes "SELECT class, pattern, id, console, level FROM entries WHERE class = ?1 AND pattern = ?2 AND id = ?3 AND console = ?4 ORDER BY id, console";
  tests = of_entry;
}

pub entry_asked : IsAsked entry
unfolding understood everything
entry_asked = record { selects = refl; unlisted = refl; plain = (refl, refl); shows = λ schema base. refl }

pub entry_returned : (old new : SqlState) (s : State) → Represents old.now s
    → (class : Class) (pattern id : List ℕ) (when : Option (List ℕ)) → when ≢ Some [] → (rows : List Row)
    → Shown entry.text (entry_key class pattern id (or_empty when)) old new rows
    → rows ≡ map (entry_row class pattern) (filter (is_for when id) (access_list s.policy class pattern))
entry_returned old new s was class pattern id when named rows h =
    let es = access_list s.policy class pattern in
    let mine = is_at id (or_empty when) in
    let list = list_ordered s was.ordered class pattern in
    returned_part entry (entry_key class pattern id (or_empty when)) refl (entry_row class pattern) column_cmp (λ _. refl)
    (λ x y less. rw (value_cmp-Text x.id y.id, value_cmp-Text (or_empty x.when) (or_empty y.when))
    (then_less (name_cmp x.id y.id) (name_cmp (or_empty x.when) (or_empty y.when)) less))
    entry_asked old new was.rows.schema (flat_map entry_rows s.policy.profiles) (filter mine es)
    (ascending-filter _ mine es (columns_rise es list)) (entry_hit s was.ordered class pattern id (or_empty when))
    was.rows.holds.entries rows h
    ∙ ap (map (entry_row class pattern)) (filter_on mine (is_for when id) es (all_weaker IsNamed _ (at_console id when named) es list.1))

-- ---- whether there is one for an id

abbrev pub any_entry : Asked
any_entry = record entries {
  text = codes "SELECT id FROM entries WHERE id = ?1 LIMIT 1";
  tests = op2 (Compare Eq Binary) (col 1 3) (col 0 0) ∷ [];
  project = columns 3 1;
  order = [];
}

pub any_entry_asked : IsPaged any_entry one_row
unfolding understood everything
any_entry_asked = record { selects = refl; unlisted = refl; plain = (refl, refl); shows = λ schema base. refl }

pub any_entry_returned : (old new : SqlState) (s : State) → Represents old.now s → (id : List ℕ) (rows : List Row)
    → Shown any_entry.text (Text id ∷ []) old new rows
    → not (length rows == 0) ≡ list_any (loads.has_entry id) s.policy.profiles
any_entry_returned old new s was id rows h =
    returned_any any_entry (Text id ∷ []) refl any_entry_asked old new was.rows.schema (flat_map entry_rows s.policy.profiles) was.rows.holds.entries rows h
    ∙ any_flat_map _ entry_rows (loads.has_entry id)
    (λ p. any_map _ (entry_row p.class p.pattern) (λ (e : Entry). bytes_eq e.id id)
    (λ e. and_true _ ∙ same_texts e.id id) p.entries) s.policy.profiles

-- What the statement on classes does.
use Rattle.std.proofs.Common.{
  ◌≡◌,
  ℕ,
  List,
  [],
  ◌∷◌,
  ◌++◌,
  map,
  filter,
  not,
  ◌&&◌,
  ◌==◌,
  drop,
  length,
  codes,
  Bool,
  true,
  false,
  Ok,
  refl,
  ap,
  subst,
  ◌∙◌,
  is_eq,
}
use Rattle.std.specs.List.{flat_map, filter_map}
use Rattle.sqlite.specs.declared.types.Value.TheVariants.{Text}
use Rattle.sqlite.specs.Term.{Term, col, op2}
use Rattle.sqlite.specs.Ops.{binary, is_true}
use Rattle.sqlite_sql.specs.declared.ops.BinaryOp.TheVariants.{Compare}
use Rattle.sqlite_sql.specs.declared.ops.CompareOp.TheVariants.{Eq}
use Rattle.sqlite_value.specs.declared.keys.Collation.TheVariants.{Binary}
use Rattle.sqlite.specs.Order.{Row, column}
use Rattle.sqlite.specs.Command.TheVariants.{Update}
use Rattle.sqlite_tied.specs.Compute.{everything}
use Rattle.sqlite.specs.Listing.{understood}
use Rattle.sqlite.specs.State.{State as SqlState, Executes}
use Rattle.sqlite.specs.Table.{Table}
use Rattle.sqlite.specs.Tree.{Trees}
use Rattle.sqlite.proofs.Callers.{IsPlain, command_of}
use Rattle.opc_store_sql.specs.Order.{text_cmp}
use Rattle.opc_store_sql.specs.Rows.{HasRows}
use Rattle.opc_store_sql.proofs.Queries.{selecting, alone, passes}
use Rattle.opc_store_sql.proofs.Values.{equal_texts, and_true}
use Rattle.opc_store_sql.proofs.Written.{sets}
use Rattle.opc_store_schema.specs.Tables.{the_schema}
use Rattle.opc_state.specs.State.{State}
use Rattle.std.proofs.lemmas.List.Sorted.{IsPermutation-middle, IsPermutation-trans}
use Rattle.sqlite_rules.specs.Action.{works, work_by, pairs, deed_for}
use Rattle.sqlite_schema.specs.Rules.{parent_key}
use Rattle.sqlite_schema.specs.declared.schema.Reference.{Reference}
use Rattle.sqlite_schema.specs.declared.schema.Keys.TheVariants.{Enforced}
use Rattle.sqlite_schema.specs.Names.{same_name}
use Rattle.sqlite_value.specs.Keys.{joined}
use Rattle.sqlite_keyed.proofs.ListLemmas.{filter-map, filter_same}
use Rattle.opc_names.specs.declared.class.Class.{Class}
use Rattle.opc_names.specs.declared.class.Class.TheVariants.{Console, Opercmds}
use Rattle.opc_names.specs.Spellings.{class_text}
use Rattle.opc_policy_members.specs.Taken.{with_active}
use Rattle.opc_store_schema.specs.Placed.{classes_at}
use Rattle.opc_store_schema.specs.Represented.{Tabulates, contents_of, flag, class_row}
use Rattle.opc_store_schema.proofs.OtherTables.{with_classes}
use Rattle.opc_store_schema.proofs.Filled.{cast_class}

abbrev pub update_class : List ℕ
update_class = codes "UPDATE classes SET class = ?1, active = ?2 WHERE class = ?1"

abbrev two : List Term
two = col 0 0 ∷ col 0 1 ∷ []

abbrev tests : List Term
tests = op2 (Compare Eq Binary) (col 1 1) (col 0 0) ∷ []

update_is : command_of (understood the_schema update_class) ≡ Update 1 (alone (selecting classes_at.tree tests (col 1 0 ∷ col 1 0 ∷ two) []))
unfolding understood everything
update_is = refl

update_plain : IsPlain (understood the_schema update_class)
unfolding understood everything
update_plain = (refl, refl)

abbrev has_key : Class → Row → Bool
has_key class v = is_true (binary (Compare Eq Binary) (column v 0) (Text (class_text class))) && true

abbrev is_of : Class → Class × Bool → Bool
is_of class x = is_eq (text_cmp (class_text x.0) (class_text class))

picks : (class : Class) (x : Class × Bool) → has_key class (class_row x) ≡ is_of class x
picks class x = and_true _ ∙ equal_texts (class_text x.0) (class_text class)

below : (x : Class × Bool) (db : Trees) (r : Row) → passes classes_at.tree tests (col 1 0 ∷ col 1 0 ∷ two) [] db (class_row x) r ≡ has_key x.0 (drop 1 r)
below x db [] = refl
below x db (v ∷ r) = refl

idle : (olds news : List Row) → works the_schema Enforced 0 classes_at.tree olds news ≡ []
unfolding same_name joined
idle olds news = go (length news == 0)
  where
    go : (b : Bool)
        → flat_map (λ (child : Table). filter_map
        (λ (ref : Reference). work_by 0 classes_at.tree (pairs olds news) child ref (deed_for Enforced b ref)
        (parent_key the_schema.tables ref)) child.references) the_schema.tables ≡ []
    go true = refl
    go false = refl

swapped : (a b : Row) (rows : List Row) → HasRows (a ∷ b ∷ []) rows → HasRows (b ∷ a ∷ []) rows
swapped a b rows h = record { each = IsPermutation-trans _ _ _ (IsPermutation-middle (b ∷ []) a []) h.each; kept = h.kept }

module _ (old new : SqlState) (count : ℕ) (s : State) (was : Tabulates old.now s) where
  abbrev rows_of : State → List (Class × Bool)
  rows_of s = (Console, s.policy.active.console) ∷ (Opercmds, s.policy.active.opercmds) ∷ []

  split : (class : Class) (active : Bool) (rows : List Row)
      → HasRows (map (λ (v : Row). class_row (class, active)) (filter (has_key class) (map class_row (rows_of s)))
      ++ filter (λ v. not (has_key class v)) (map class_row (rows_of s))) rows
      → HasRows (map (λ (v : Row). class_row (class, active)) (map class_row (filter (is_of class) (rows_of s)))
      ++ map class_row (filter (λ x. not (is_of class x)) (rows_of s))) rows
  split class active rows h =
      let hit : filter (has_key class) (map class_row (rows_of s)) ≡ map class_row (filter (is_of class) (rows_of s)) =
      filter-map (has_key class) class_row (rows_of s)
      ∙ ap (map class_row) (filter_same _ _ (picks class) (rows_of s)) in
      let left : filter (λ v. not (has_key class v)) (map class_row (rows_of s)) ≡ map class_row (filter (λ x. not (is_of class x)) (rows_of s)) =
      filter-map (λ (v : Row). not (has_key class v)) class_row (rows_of s) ∙ ap (map class_row) (filter_same _ _ (λ x. ap not (picks class x)) (rows_of s)) in
      subst (λ (l : List Row). HasRows (map (λ (v : Row). class_row (class, active)) (map class_row (filter (is_of class) (rows_of s))) ++ l) rows) left
      (subst (λ (l : List Row). HasRows (map (λ (v : Row). class_row (class, active)) l
      ++ filter (λ v. not (has_key class v)) (map class_row (rows_of s))) rows) hit h)

  abbrev activated : Class → Bool → State
  activated class active = record s { policy = record s.policy { active = with_active class active s.policy.active } }

  set_rows : (class : Class) (active : Bool) (rows : List Row)
      → HasRows (map (λ (v : Row). class_row (class, active)) (map class_row (filter (is_of class) (rows_of s)))
      ++ map class_row (filter (λ x. not (is_of class x)) (rows_of s))) rows
      → HasRows (map class_row (rows_of (activated class active))) rows
  set_rows Console active rows h = h
  set_rows Opercmds active rows h = swapped _ _ rows h

  pub sets_class : (class : Class) (active : Bool)
      → Executes update_class (class_row (class, active)) old new (Ok count)
      → Tabulates new.now (activated class active)
  sets_class class active h =
      let x : Class × Bool = (class, active) in
      let it = sets the_schema update_class 1 classes_at (class_row x) update_plain refl old new was.schema count tests
      (has_key class) two update_is (below x old.now.trees) (class_row x) (λ r. cast_class x (column r 0)) idle h in
      with_classes (contents_of s) old.now new.now was it.spares _
      (set_rows class active _ (split class active _ (it.rows (map class_row (rows_of s)) was.holds.classes)))

pub class_params : (sql text : List ℕ) (class : Class) (active : Bool) → text ≡ class_text class → (old new : SqlState) (count : ℕ)
    → Executes sql (Text text ∷ flag active ∷ []) old new (Ok count) → Executes sql (class_row (class, active)) old new (Ok count)
class_params sql text class active same old new count = subst (λ (t : List ℕ). Executes sql (Text t ∷ flag active ∷ []) old new (Ok count)) same

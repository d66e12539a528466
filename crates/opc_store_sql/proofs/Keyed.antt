-- A table whose key consists of its first columns, with its three statements: INSERT of a row, UPDATE of all columns at
-- its key, DELETE at a key.
use Rattle.std.proofs.Common.{
  ◌≡◌,
  ◌≢◌,
  ℕ,
  zero,
  suc,
  ◌+◌,
  ◌/◌,
  List,
  [],
  ◌∷◌,
  map,
  take,
  drop,
  length,
  slice_get,
  Bool,
  true,
  false,
  cond,
  not,
  ◌&&◌,
  ◌==◌,
  Option,
  Some,
  None,
  Ok,
  refl,
  sym,
  ap,
  ap₂,
  subst,
  ◌∙◌,
  add-one,
  arith,
  Ordering,
  is_eq,
}
use Rattle.std.proofs.lemmas.Bool.{and_parts}
use Rattle.std.specs.List.{list_all, list_any, flat_map, filter_map}
use Rattle.std.specs.BTreeSet.{replace_key}
use Rattle.std.specs.Cmp.{IsTotalOrder}
use Rattle.sqlite.specs.declared.types.Value.{Value}
use Rattle.sqlite.specs.declared.types.Value.TheVariants.{Null}
use Rattle.sqlite.specs.Order.{Row, column}
use Rattle.sqlite.specs.Term.{Term, Env, lit, col, op2, eval_all, holds}
use Rattle.sqlite.specs.Ops.{binary, is_true}
use Rattle.sqlite.specs.Held.{Held, state}
use Rattle.sqlite_trees.specs.declared.store.Store.{Ghosts}
use Rattle.sqlite_keyed.proofs.ListLemmas.{all_both}
use Rattle.sqlite.specs.Table.{Table}
use Rattle.sqlite.specs.Schema.{Schema}
use Rattle.sqlite.specs.Tree.{Trees}
use Rattle.sqlite.specs.Command.TheVariants.{Insert, Delete, Update}
use Rattle.sqlite.specs.Source.TheVariants.{Values}
use Rattle.sqlite.specs.Cast.{cast, cast_all}
use Rattle.sqlite.specs.Effect.{Database, value_rows}
use Rattle.sqlite.specs.Listing.{understood}
use Rattle.sqlite.specs.State.{State, Executes}
use Rattle.sqlite.proofs.Callers.{IsPlain, command_of}
use Rattle.sqlite_rules.specs.Action.{Work, works, work_by, pairs, deed_for, loses}
use Rattle.sqlite_rules.specs.declared.action.Deed.{Deed}
use Rattle.sqlite_schema.specs.Rules.{ParentKey, parent_key}
use Rattle.sqlite_schema.specs.declared.schema.Column.{Column}
use Rattle.sqlite_schema.specs.declared.schema.Keys.TheVariants.{Enforced}
use Rattle.sqlite_schema.specs.declared.schema.Reference.{Reference}
use Rattle.sqlite_sql.specs.declared.ops.BinaryOp.TheVariants.{Compare}
use Rattle.sqlite_sql.specs.declared.ops.CompareOp.TheVariants.{Eq}
use Rattle.sqlite_value.specs.declared.keys.Collation.TheVariants.{Binary}
use Rattle.opc_store_sql.specs.Order.{Rises}
use Rattle.opc_store_sql.specs.Rows.{HasRows}
use Rattle.opc_store_sql.specs.Steps.{Puts}
use Rattle.opc_store_sql.proofs.Queries.{selecting, alone, passes}
use Rattle.opc_store_sql.proofs.Sets.{others}
use Rattle.opc_store_sql.proofs.Steps.{IsSimple, cast_null}
use Rattle.opc_store_sql.proofs.Written.{Spares, Takes, Sets, Adds, takes, sets, adds, taken, set, missed, added}

-- its rows are those of members of X, of which no two have a key in common
pub record Keyed (X : Type 0) : Type 0 where
  pub schema : Schema
  -- its place in the schema, and itself, at its tree
  pub place : ℕ
  pub table : Table
  -- how many columns are the key
  pub width : ℕ
  pub insert : List ℕ
  pub update : List ℕ
  pub delete : List ℕ
  pub row : X → Row
  pub cmp : X → X → Ordering

-- this many parameters, from this one on
abbrev pub parameters : ℕ → ℕ → List Term
parameters first zero = []
parameters first (suc n) = col 0 first ∷ parameters (first + 1) n

-- this many columns are those parameters, from these on
abbrev pub same_columns : ℕ → ℕ → List Term
same_columns first zero = []
same_columns first (suc n) = op2 (Compare Eq Binary) (col 1 (first + 1)) (col 0 first) ∷ same_columns (first + 1) n

-- the columns store the values as they are
abbrev pub StoresAsIs : List Column → Row → Type 0
StoresAsIs [] values = Unit {0}
StoresAsIs (c ∷ cs) [] = Unit {0}
StoresAsIs (c ∷ cs) (v ∷ values) = (cast c.kind v ≡ v) × StoresAsIs cs values

-- if rows with this key are removed, or get another one (not `deletes`), this reference does nothing to their children
abbrev spared_by : ℕ → Option Deed → Option ParentKey → Bool
spared_by tree None key = true
spared_by tree (Some deed) None = true
spared_by tree (Some deed) (Some key) = not (key.0 == tree)

abbrev pub is_idle : Schema → ℕ → Bool → Bool
is_idle schema tree deletes =
    list_all (λ (child : Table). list_all
    (λ (ref : Reference). spared_by tree (deed_for Enforced deletes ref) (parent_key schema.tables ref))
    child.references) schema.tables

module _ {X : Type 0} (k : Keyed X) where
  abbrev pub terms : List Term
  terms = parameters 0 (length k.table.columns)

  abbrev pub tests : List Term
  tests = same_columns 0 k.width

  abbrev pub key_of : X → Row
  key_of x = take k.width (k.row x)

  -- the test of a row's values
  abbrev pub has_key : X → Row → Bool
  has_key x values = list_all (holds (key_of x ∷ (Null ∷ values) ∷ [])) tests

  -- what the statements mean; of texts that are written out `refl` shows it
  pub record AreUnderstood : Type 0 where
    pub insert_is : command_of (understood k.schema k.insert) ≡ Insert k.place (Values (lit Null ∷ terms) (length k.table.columns + 1))
    pub update_is : command_of (understood k.schema k.update) ≡ Update k.place (alone (selecting k.table.tree tests (col 1 0 ∷ col 1 0 ∷ terms) []))
    pub delete_is : command_of (understood k.schema k.delete) ≡ Delete k.place (alone (selecting k.table.tree tests (col 1 0 ∷ []) []))
    pub insert_plain : IsPlain (understood k.schema k.insert)
    pub update_plain : IsPlain (understood k.schema k.update)
    pub delete_plain : IsPlain (understood k.schema k.delete)

  -- the table is that of the schema, no other refers to it with an action, and it takes the rows of members
  pub record IsKeyed : Type 0 where
    pub texts : AreUnderstood
    pub found : slice_get k.schema.tables k.place ≡ Some k.table
    pub simple : IsSimple k.table
    pub idle : (is_idle k.schema k.table.tree true ≡ true) × (is_idle k.schema k.table.tree false ≡ true)
    pub stores : (x : X) → StoresAsIs k.table.columns (k.row x)
    -- the columns are as many as the values
    pub values : (x : X) (rest : Env) → eval_all terms (k.row x ∷ rest) ≡ k.row x
    pub gives : (x : X) → value_rows (k.row x) (length k.table.columns + 1)
        (length (lit Null ∷ terms) / (length k.table.columns + 1)) (lit Null ∷ terms) ≡ (Null ∷ k.row x) ∷ []
    pub tested : (x : X) (rest : Env) → list_all (holds (k.row x ∷ rest)) tests ≡ list_all (holds (key_of x ∷ rest)) tests
    -- and the key distinguishes the members
    pub total : IsTotalOrder k.cmp
    pub picks : (x y : X) → has_key x (k.row y) ≡ is_eq (k.cmp y x)

-- ---- why

pub stored : (columns : List Column) (values : Row) → StoresAsIs columns values → cast_all columns values ≡ values
stored [] values h = refl
stored (c ∷ cs) [] h = refl
stored (c ∷ cs) (v ∷ values) h = ap₂ (λ (a : Value) (r : Row). a ∷ r) h.0 (stored cs values h.1)

shifted : (first : ℕ) (r : Row) → column r (suc first) ≡ column (Null ∷ drop 1 r) (suc first)
shifted first [] = refl
shifted first (v ∷ r) = refl

later : (first : ℕ) (r : Row) → column r (first + 1) ≡ column (Null ∷ drop 1 r) (first + 1)
later first r = subst (λ n. column r n ≡ column (Null ∷ drop 1 r) n) (sym (add-one first)) (shifted first r)

-- tests of columns do not read the rowid
no_rowid : (params r : Row) (first n : ℕ)
    → list_all (holds (params ∷ r ∷ [])) (same_columns first n) ≡ list_all (holds (params ∷ (Null ∷ drop 1 r) ∷ []))
    (same_columns first n)
no_rowid params r first zero = refl
no_rowid params r first (suc n) =
    ap₂ (λ (v : Value) (b : Bool). is_true (binary (Compare Eq Binary) v (column params first)) && b) (later first r) (no_rowid params r (first + 1) n)

module _ (tree : ℕ) (moves : List (Row × Row)) where
  no_deed : (child : Table) (ref : Reference) (deed : Option Deed) (key : Option ParentKey)
      → spared_by tree deed key ≡ true → work_by 0 tree moves child ref deed key ≡ None
  no_deed child ref None key h = refl
  no_deed child ref (Some deed) None h = refl
  no_deed child ref (Some deed) (Some key) h = go (key.0 == tree) (list_any (loses key.2 key.1) moves) h (record {
    depth = 0;
    child = child;
    ref = ref;
    places = key.1;
    order = key.2;
    deed = deed;
    moves = moves;
  })
    where
      go : (here some : Bool) → not here ≡ true → (w : Work) → cond (here && some) (Some w) None ≡ None
      go true some h w = absurd cc
      go false some h w = refl

none_filtered : {A B : Type 0} (f : A → Option B) (p : A → Bool) → ((x : A) → p x ≡ true → f x ≡ None) → (xs : List A)
    → list_all p xs ≡ true → filter_map f xs ≡ []
none_filtered f p none [] h = refl
none_filtered f p none (x ∷ xs) h = let both = and_parts (p x) (list_all p xs) h in rw (none x both.0, none_filtered f p none xs both.1)

none_flat : {A B : Type 0} (f : A → List B) (p : A → Bool) → ((x : A) → p x ≡ true → f x ≡ []) → (xs : List A) → list_all p xs ≡ true → flat_map f xs ≡ []
none_flat f p none [] h = refl
none_flat f p none (x ∷ xs) h = let both = and_parts (p x) (list_all p xs) h in rw (none x both.0, none_flat f p none xs both.1)

-- if no reference acts, no row that is removed or gets another key sets anything off
pub nothing_acts : (schema : Schema) (tree : ℕ) → is_idle schema tree true ≡ true → is_idle schema tree false ≡ true
    → (olds news : List Row) → works schema Enforced 0 tree olds news ≡ []
nothing_acts schema tree deletes changes olds news = go (length news == 0)
  where
    go : (b : Bool)
        → flat_map (λ (child : Table). filter_map
        (λ (ref : Reference). work_by 0 tree (pairs olds news) child ref (deed_for Enforced b ref)
        (parent_key schema.tables ref)) child.references) schema.tables ≡ []
    go b = none_flat _ _ (λ child. none_filtered _ _ (λ ref. no_deed tree (pairs olds news) child ref _ _) child.references) schema.tables (idle b)
      where
        idle : (b : Bool) → is_idle schema tree b ≡ true
        idle true = deletes
        idle false = changes

-- the table has rows of these, and the other tables have what they had
pub record Has {X : Type 0} (k : Keyed X) (xs : List X) (old : Trees) (new : Database) : Type 0 where
  pub spares : Spares k.schema k.table old new
  pub rows : HasRows (map k.row xs) (new.trees k.table.tree)

module _ {X : Type 0} (k : Keyed X) (is : IsKeyed k) (x : X) where
  abbrev pub rest : List X → List X
  rest = others k.cmp is.total x

  tests_key : (params : Row) → ((rest : Env)
      → list_all (holds (params ∷ rest)) (tests k) ≡ list_all (holds (key_of k x ∷ rest)) (tests k))
      → (project : List Term) (db : Trees) (r : Row)
      → passes k.table.tree (tests k) project [] db params r ≡ has_key k x (drop 1 r)
  tests_key params same project db r = same (r ∷ []) ∙ no_rowid (key_of k x) r 0 k.width

  module _ (old new : State) (count : ℕ) (has : old.now.schema ≡ k.schema) where
    takes_key : Executes k.delete (key_of k x) old new (Ok count) → Takes k.schema k.table (has_key k x) old.now.trees new.now
    takes_key =
        takes k.schema k.delete k.place k.table (key_of k x) is.texts.delete_plain is.found old new has count (tests k) (has_key k x) is.texts.delete_is
        (tests_key (key_of k x) (λ _. refl) (col 1 0 ∷ []) old.now.trees) (λ rows. nothing_acts k.schema k.table.tree is.idle.0 is.idle.1 _ [])

    sets_row : Executes k.update (k.row x) old new (Ok count) → Sets k.schema k.table (has_key k x) (k.row x) count old.now.trees new.now
    sets_row =
        sets k.schema k.update k.place k.table (k.row x) is.texts.update_plain is.found old new has count (tests k) (has_key k x) (terms k) is.texts.update_is
        (tests_key (k.row x) (is.tested x) (col 1 0 ∷ col 1 0 ∷ terms k) old.now.trees) (k.row x)
        (λ r. ap (cast_all k.table.columns) (is.values x (r ∷ [])) ∙ stored k.table.columns (k.row x) (is.stores x))
        (nothing_acts k.schema k.table.tree is.idle.0 is.idle.1)

    adds_row : Executes k.insert (k.row x) old new (Ok count) → Adds k.schema k.table (k.row x) old.now.trees new.now
    adds_row =
        adds k.schema k.insert k.place k.table (k.row x) is.texts.insert_plain is.found old new has count
        (lit Null ∷ terms k) (length k.table.columns + 1) is.texts.insert_is is.simple
        (k.row x) (is.gives x) (ap₂ (λ (v : Value) (r : Row). v ∷ r) cast_null (stored k.table.columns (k.row x) (is.stores x)))

    module _ (xs : List X) (up : Rises k.cmp xs) where
      pub removes : HasRows (map k.row xs) (old.now.trees k.table.tree)
          → Executes k.delete (key_of k x) old new (Ok count) → Has k (rest xs) old.now.trees new.now
      removes had h =
          let it = takes_key h in
          record { spares = it.spares; rows = taken k.row k.cmp is.total x (has_key k x) (is.picks x) k.schema k.table xs up old.now.trees new.now had it }

      -- it was there, and is replaced; or it was not there, and nothing changes
      pub updates : HasRows (map k.row xs) (old.now.trees k.table.tree) → Executes k.update (k.row x) old new (Ok count)
          → (count ≢ 0 → Has k (replace_key k.cmp xs x) old.now.trees new.now) × (count ≡ 0 → Has k (rest xs) old.now.trees new.now)
      updates had h =
          let it = sets_row h in (
            λ some. record {
              spares = it.spares;
              rows = set k.row k.cmp is.total x (has_key k x) (is.picks x) k.schema k.table xs up old.now.trees new.now had count it some;
            },
            λ none. record {
              spares = it.spares;
              rows = missed k.row k.cmp is.total x (has_key k x) (is.picks x) k.schema k.table xs up old.now.trees new.now had count it none;
            },
          )

      -- it was not there, and is added
      pub inserts : HasRows (map k.row (rest xs)) (old.now.trees k.table.tree)
          → Executes k.insert (k.row x) old new (Ok count) → Has k (replace_key k.cmp xs x) old.now.trees new.now
      inserts had h =
          let it = adds_row h in
          record { spares = it.spares; rows = added k.row k.cmp is.total x (has_key k x) (is.picks x) k.schema k.table xs up old.now.trees new.now had it }

spares_then : (schema : Schema) (table : Table) (old : Trees) (mid new : Database) → Spares schema table old mid
    → Spares schema table mid.trees new → Spares schema table old new
spares_then schema table old mid new a b = record {
  schema_is = b.schema_is;
  sound = b.sound;
  tables = all_both _ _ (λ (t : Table). t.tree ≢ table.tree → new.trees t.tree ≡ old t.tree)
      (λ t before after other. after other ∙ before other) schema.tables a.tables b.tables;
}

module _ {S : Type 0} (g : Ghosts S) {X : Type 0} (k : Keyed X) (is : IsKeyed k) (old new : Held S)
    (has : (state g old).now.schema ≡ k.schema) (xs : List X) (up : Rises k.cmp xs)
    (had : HasRows (map k.row xs) ((state g old).now.trees k.table.tree)) (x : X) where
  -- a row is put at its key
  pub puts : Puts g k.update k.insert (k.row x) old new → Has k (replace_key k.cmp xs x) (state g old).now.trees (state g new).now
  puts h = go h.found refl
    where
      updated : (h.found ≢ 0 → Has k (replace_key k.cmp xs x) (state g old).now.trees (state g h.mid).now)
          × (h.found ≡ 0 → Has k (rest k is x xs) (state g old).now.trees (state g h.mid).now)
      updated = updates k is x (state g old) (state g h.mid) h.found has xs up had h.updates.executes

      go : (found : ℕ) → h.found ≡ found → Has k (replace_key k.cmp xs x) (state g old).now.trees (state g new).now
      go zero none =
          let gone = updated.1 none in
          let added = h.inserts none in
          let came = inserts k is x (state g h.mid) (state g new) added.0 gone.spares.schema_is xs up gone.rows added.1.executes in
          record { spares = spares_then k.schema k.table _ _ _ gone.spares came.spares; rows = came.rows }
      go (suc n) some =
          let there : h.found ≢ 0 = λ none. absurd (omega (arith, some, none)) in
          subst (λ (c : Held S). Has k (replace_key k.cmp xs x) (state g old).now.trees (state g c).now) (sym (h.ends there)) (updated.0 there)

-- A SELECT on one table: what it means, and which rows it returns.
use Rattle.std.proofs.Common.{
  ◌≡◌,
  ℕ,
  zero,
  suc,
  ◌+◌,
  List,
  [],
  ◌∷◌,
  ◌++◌,
  map,
  drop,
  filter,
  Bool,
  true,
  false,
  not,
  ◌&&◌,
  ◌==◌,
  refl,
  sym,
  ap,
  ap₂,
  subst,
  ◌∙◌,
  Ordering,
  Less,
  Equal,
  Greater,
}
use Rattle.std.proofs.lemmas.Bool.{and_parts}
use Rattle.std.specs.List.{list_all}
use Rattle.std.specs.Ordering.{ordering_then}
use Rattle.sqlite.specs.declared.types.Value.{Value}
use Rattle.sqlite.specs.declared.types.Value.TheVariants.{Null}
use Rattle.sqlite.specs.Order.{Row, column}
use Rattle.sqlite.specs.Term.{Term, Env, lit, col, op1, op2, case, eval, eval_all, holds}
use Rattle.sqlite.specs.Ops.{unary, binary, is_true}
use Rattle.sqlite.specs.Query.{Query, Output, output_cmp}
use Rattle.sqlite.specs.Schema.{Schema}
use Rattle.sqlite.specs.Tree.{Trees}
use Rattle.sqlite.specs.Command.{Command}
use Rattle.sqlite.specs.Command.TheVariants.{Select}
use Rattle.sqlite.specs.Effect.{Database, Answers, Reads, ReadsFirst}
use Rattle.sqlite.specs.Listing.{understood, reads_listing}
use Rattle.sqlite.specs.State.{State, Shown, Begins}
use Rattle.sqlite.proofs.Callers.{IsPlain, command_of, reads_as, begins_as}
use Rattle.sqlite_keyed.proofs.ListLemmas.{filter_all, all_of, map_same}
use Rattle.sqlite_resolve.specs.Compile.{first}
use Rattle.sqlite_schema.specs.declared.program.Program.{Program}
use Rattle.sqlite_value.specs.declared.keys.Collation.TheVariants.{Binary}
use Rattle.sqlite_value.specs.declared.keys.Key.{Key}
use Rattle.sqlite_value.specs.Keys.{ascending}
use Rattle.opc_store_sql.specs.Order.{Rises}
use Rattle.opc_store_sql.specs.Rows.{HasRows, numbered_rows}
use Rattle.opc_store_sql.specs.Steps.{NeverWrites}
use Rattle.opc_store_sql.proofs.Listed.{listed, listed_numbers, listed_part}
use Rattle.opc_store_sql.proofs.Places.{placed, place_cmp, placed_row, placed_rows, placed_rises, placed_members}
use Rattle.opc_store_sql.proofs.Queries.{Lists, Pages, selecting, paging, alone, answered, paged, passes, shown}
use Rattle.opc_store_sql.proofs.Quiet.{ShowsNothing, understood_quiet}

-- this many columns, from this one on, where 0 is the rowid
abbrev pub columns : ℕ → ℕ → List Term
columns at zero = []
columns at (suc n) = col 1 at ∷ columns (at + 1) n

-- ORDER BY this many columns, from this one on
abbrev pub by_columns : ℕ → ℕ → List (Term × Key)
by_columns at zero = []
by_columns at (suc n) = (col 1 at, ascending Binary) ∷ by_columns (at + 1) n

-- what is before by two columns comes first
pub then_less : (a b : Ordering) → ordering_then a b ≡ Less → ordering_then a (ordering_then b Equal) ≡ Less
then_less Less b h = refl
then_less Equal Less h = refl
then_less Equal Equal h = absurd cc
then_less Equal Greater h = absurd cc
then_less Greater b h = absurd cc

abbrev pub Selects : Query → Command → Type 0
Selects q (Select p names) = p ≡ alone q
Selects q _ = ⊥

module _ (schema : Schema) (text : List ℕ) (q : Query) where
  -- the text means this query; of one that is written out `refl` shows it
  pub record Asks : Type 0 where
    pub selects : Selects q (command_of (understood schema text))
    pub unlisted : reads_listing schema text ≡ false
    pub plain : IsPlain (understood schema text)
    pub shows : ShowsNothing (first text)

  read_is : (c : Command) (db : Database) (params : Row) (rows : List Row) → Selects q c → Reads c db params rows → Answers db (alone q) params rows
  read_is (Select p names) db params rows is h = subst (λ (p : Program). Answers db p params rows) is h
  read_is _ db params rows is h = absurd is

  first_is : (c : Command) (db : Database) (params : Row) (rows : List Row) → Selects q c → ReadsFirst c db params rows
      → (tail : List Row) × Answers db (alone q) params (rows ++ tail)
  first_is (Select p names) db params rows is h =
      let it = subst (λ (p : Program). ReadsFirst (Select p names) db params rows) is h in
      (it.1.0, record { typed = it.0; answer = it.1.1 })
  first_is _ db params rows is h = absurd is

  module _ (is : Asks) (params : Row) where
    pub answers : (old new : State) → old.now.schema ≡ schema → (rows : List Row) → Shown text params old new rows → Answers old.now (alone q) params rows
    answers old new has rows h =
        read_is (command_of (understood schema text)) old.now params rows is.selects
        (reads_as text params old new schema has (command_of (understood schema text)) refl is.plain is.unlisted
        rows h)

    -- the first rows of a result
    pub begins : (old : State) → old.now.schema ≡ schema → (rows : List Row) → Begins text params old rows
        → (tail : List Row) × Answers old.now (alone q) params (rows ++ tail)
    begins old has rows h =
        first_is (command_of (understood schema text)) old.now params rows is.selects
        (begins_as text params old old schema has (command_of (understood schema text)) refl is.plain is.unlisted
        rows h)

pub never_writes : {schema : Schema} {text : List ℕ} {q : Query} → Asks schema text q → NeverWrites text
never_writes {schema} {text} {q} is = understood_quiet text is.shows

-- ---- what is read of a row

-- no rowid is
abbrev of_values : Term → Bool
of_values (lit v) = true
of_values (col slot at) = not ((slot == 1) && (at == 0))
of_values (op1 op a) = of_values a
of_values (op2 op a b) = of_values a && of_values b
of_values (case t a b) = of_values t && (of_values a && of_values b)

module _ (params r : Row) where
  abbrev here : Env
  here = params ∷ r ∷ []

  abbrev there : Env
  there = params ∷ (Null ∷ drop 1 r) ∷ []

  same_column : (at : ℕ) → column r (suc at) ≡ column (Null ∷ drop 1 r) (suc at)
  same_column at = go r
    where
      go : (r : Row) → column r (suc at) ≡ column (Null ∷ drop 1 r) (suc at)
      go [] = refl
      go (v ∷ r) = refl

  evals_same : (t : Term) → of_values t ≡ true → eval t here ≡ eval t there
  evals_same (lit v) h = refl
  evals_same (col zero at) h = refl
  evals_same (col (suc zero) zero) h = absurd cc
  evals_same (col (suc zero) (suc at)) h = same_column at
  evals_same (col (suc (suc slot)) at) h = refl
  evals_same (op1 op a) h = ap (unary op) (evals_same a h)
  evals_same (op2 op a b) h = let both = and_parts (of_values a) (of_values b) h in ap₂ (binary op) (evals_same a both.0) (evals_same b both.1)
  evals_same (case t a b) h =
      let three = and_parts (of_values t) (of_values a && of_values b) h in
      let both = and_parts (of_values a) (of_values b) three.1 in
      rw (evals_same t three.0, evals_same a both.0, evals_same b both.1) refl

  all_evals_same : (ts : List Term) → list_all of_values ts ≡ true → eval_all ts here ≡ eval_all ts there
  all_evals_same [] h = refl
  all_evals_same (t ∷ ts) h = let both =
      and_parts (of_values t) (list_all of_values ts) h in
      ap₂ (λ (v : Value) (r : Row). v ∷ r) (evals_same t both.0) (all_evals_same ts both.1)

  tests_same : (ts : List Term) → list_all of_values ts ≡ true → list_all (holds here) ts ≡ list_all (holds there) ts
  tests_same [] h = refl
  tests_same (t ∷ ts) h = let both = and_parts (of_values t) (list_all of_values ts) h in
      ap₂ (λ (v : Value) (b : Bool). is_true v && b) (evals_same t both.0) (tests_same ts both.1)

-- ---- the rows that are returned

pub record Asked : Type 0 where
  pub schema : Schema
  pub text : List ℕ
  pub tree : ℕ
  pub tests : List Term
  pub project : List Term
  pub order : List (Term × Key)

abbrev pub query : Asked → Query
query a = selecting a.tree a.tests a.project a.order

abbrev pub IsAsked : Asked → Type 0
IsAsked a = Asks a.schema a.text (query a)

-- the text has LIMIT, too
abbrev pub IsPaged : Asked → Term → Type 0
IsPaged a limit = Asks a.schema a.text (paging a.tree a.tests a.project a.order limit)

-- it reads no rowid
abbrev pub is_of_values : Asked → Bool
is_of_values a = list_all of_values a.tests && (list_all of_values (map (λ (k : Term × Key). k.0) a.order) && list_all of_values a.project)

module _ (a : Asked) (params : Row) where
  abbrev pub picks : Row → Bool
  picks r = passes a.tree a.tests a.project a.order (λ _. []) params r

  abbrev pub returns : Row → Output
  returns r = shown a.tree a.tests a.project a.order (λ _. []) params r

  pub pages : (limit : Term) → IsPaged a limit → (old new : State) → old.now.schema ≡ a.schema → (rows : List Row)
      → Shown a.text params old new rows → Pages a.tree a.tests a.project a.order old.now.trees params limit rows
  pages limit is old new has rows h =
      paged a.tree a.tests a.project a.order old.now.trees params old.now.schema limit rows
      (answers a.schema a.text (paging a.tree a.tests a.project a.order limit) is params old new has rows h)

  -- a table whose key is the rowid: rows with their numbers
  module _ {X : Type 0} (row : X → Row) (cmp : X → X → Ordering)
      (less : (x y : X) → cmp x y ≡ Less → output_cmp (query a) (returns (row x)) (returns (row y)) ≡ Less) where
    module _ (p : X → Bool) (passing : (x : X) → picks (row x) ≡ p x) where
      pub numbers_listed : (db : Trees) (xs : List X) → Rises cmp xs → db a.tree ≡ map row xs → (rows : List Row)
          → Lists a.tree a.tests a.project a.order db params rows → rows ≡ map (λ x. (returns (row x)).1) (filter p xs)
      numbers_listed db xs up had rows lists =
          listed_numbers row cmp a.tree a.tests a.project a.order params (λ x. returns (row x)) p db passing (λ _. refl)
          less xs rows up had lists

      pub returned_numbers : IsAsked a → (old new : State) → old.now.schema ≡ a.schema → (xs : List X) → Rises cmp xs
          → old.now.trees a.tree ≡ map row xs → (rows : List Row) → Shown a.text params old new rows
          → rows ≡ map (λ x. (returns (row x)).1) (filter p xs)
      returned_numbers is old new has xs up had rows h =
          numbers_listed old.now.trees xs up had rows
          (answered a.tree a.tests a.project a.order old.now.trees params old.now.schema rows
          (answers a.schema a.text (query a) is params old new has rows h))

    -- if each row passes
    pub returned_all_numbers : ((x : X) → picks (row x) ≡ true) → IsAsked a → (old new : State) → old.now.schema ≡ a.schema
        → (xs : List X) → Rises cmp xs → old.now.trees a.tree ≡ map row xs → (rows : List Row)
        → Shown a.text params old new rows
        → rows ≡ map (λ x. (returns (row x)).1) xs
    returned_all_numbers each is old new has xs up had rows h =
        returned_numbers (λ _. true) each is old new has xs up had rows h
        ∙ ap (map (λ x. (returns (row x)).1))
        (filter_all (λ (x : X). true) xs (all_of (λ (x : X). true ≡ true) (λ _. refl) xs))

  -- a table whose rows are numbered by their places, all of it
  pub returned_places : {X : Type 0} (values shape : X → Row) → ((p : ℕ × X) → (returns (placed_row values p)).1 ≡ shape p.1)
      → ((p q : ℕ × X) → place_cmp p q ≡ Less
      → output_cmp (query a) (returns (placed_row values p)) (returns (placed_row values q)) ≡ Less)
      → ((p : ℕ × X) → picks (placed_row values p) ≡ true) → IsAsked a → (old new : State) → old.now.schema ≡ a.schema
      → (xs : List X) → old.now.trees a.tree ≡ numbered_rows values 1 xs
      → (rows : List Row) → Shown a.text params old new rows → rows ≡ map shape xs
  returned_places {X} values shape shows less each is old new has xs had rows h =
      returned_all_numbers (placed_row values) place_cmp less each is old new has (placed 1 xs) (placed_rises 1 xs) (had ∙ placed_rows values 1 xs) rows h
      ∙ (map_same (λ (p : ℕ × X). (returns (placed_row values p)).1) (λ (p : ℕ × X). shape p.1) shows (placed 1 xs) ∙ placed_members shape 1 xs)

  -- any other: rows of values
  module _ (values : is_of_values a ≡ true) where
    pub passes_values : (db : Trees) (r : Row) → passes a.tree a.tests a.project a.order db params r ≡ picks (Null ∷ drop 1 r)
    passes_values db r = tests_same params r a.tests (and_parts _ _ values).0

    pub shows_values : (db : Trees) (r : Row) → shown a.tree a.tests a.project a.order db params r ≡ returns (Null ∷ drop 1 r)
    shows_values db r =
        let both = and_parts (list_all of_values (map (λ (k : Term × Key). k.0) a.order)) (list_all of_values a.project)
        (and_parts (list_all of_values a.tests) _ values).1 in
        ap₂ (λ (x y : Row). let o : Output = (x, y) in o)
        (all_evals_same params r (map (λ (k : Term × Key). k.0) a.order) both.0)
        (all_evals_same params r a.project both.1)

    -- for each member what is shown of its row
    module _ {X : Type 0} (row shape : X → Row) (cmp : X → X → Ordering) (shows : (x : X) → (returns (Null ∷ row x)).1 ≡ shape x)
        (less : (x y : X) → cmp x y ≡ Less → output_cmp (query a) (returns (Null ∷ row x)) (returns (Null ∷ row y)) ≡ Less) where
      module _ (p : X → Bool) (passing : (x : X) → picks (Null ∷ row x) ≡ p x) where
        answer_shows : (db : Database) (xs : List X) → Rises cmp xs → HasRows (map row xs) (db.trees a.tree)
            → (rows : List Row) → Answers db (alone (query a)) params rows → rows ≡ map shape (filter p xs)
        answer_shows db xs up had rows h =
            let lists = answered a.tree a.tests a.project a.order db.trees params db.schema rows h in
            listed row shape cmp a.tree a.tests a.project a.order params (λ v. picks (Null ∷ v)) (λ v. returns (Null ∷ v))
            p db.trees (passes_values db.trees) (shows_values db.trees) passing shows less xs rows up had lists

      -- if each row passes
      pub returned_all_shown : ((x : X) → picks (Null ∷ row x) ≡ true) → IsAsked a → (old new : State)
          → old.now.schema ≡ a.schema → (xs : List X) → Rises cmp xs → HasRows (map row xs) (old.now.trees a.tree)
          → (rows : List Row) → Shown a.text params old new rows → rows ≡ map shape xs
      returned_all_shown each is old new has xs up had rows h =
          answer_shows (λ _. true) each old.now xs up had rows (answers a.schema a.text (query a) is params old new has rows h)
          ∙ ap (map shape) (filter_all (λ (x : X). true) xs (all_of (λ (x : X). true ≡ true) (λ _. refl) xs))

      -- a part of the table
      pub returned_part_shown : IsAsked a → (old new : State) → old.now.schema ≡ a.schema → (have : List Row) (xs : List X)
          → Rises cmp xs → filter (λ v. picks (Null ∷ v)) have ≡ map row xs → HasRows have (old.now.trees a.tree)
          → (rows : List Row) → Shown a.text params old new rows → rows ≡ map shape xs
      returned_part_shown is old new has have xs up mine had rows h =
          let lists = answered a.tree a.tests a.project a.order old.now.trees params old.now.schema rows
          (answers a.schema a.text (query a) is params old new has rows h) in
          listed_part row shape cmp a.tree a.tests a.project a.order params (λ v. picks (Null ∷ v))
          (λ v. returns (Null ∷ v)) old.now.trees (passes_values old.now.trees) (shows_values old.now.trees) shows
          less have xs rows up mine had lists

    -- and if that is the whole row
    module _ {X : Type 0} (row : X → Row) (cmp : X → X → Ordering) (whole : (x : X) → (returns (Null ∷ row x)).1 ≡ row x)
        (less : (x y : X) → cmp x y ≡ Less → output_cmp (query a) (returns (Null ∷ row x)) (returns (Null ∷ row y)) ≡ Less) where
      module _ (p : X → Bool) (passing : (x : X) → picks (Null ∷ row x) ≡ p x) where
        pub answer_is : (db : Database) (xs : List X) → Rises cmp xs → HasRows (map row xs) (db.trees a.tree)
            → (rows : List Row) → Answers db (alone (query a)) params rows → rows ≡ map row (filter p xs)
        answer_is = answer_shows row row cmp whole less p passing

        pub returned : IsAsked a → (old new : State) → old.now.schema ≡ a.schema → (xs : List X) → Rises cmp xs
            → HasRows (map row xs) (old.now.trees a.tree) → (rows : List Row) → Shown a.text params old new rows
            → rows ≡ map row (filter p xs)
        returned is old new has xs up had rows h = answer_is old.now xs up had rows (answers a.schema a.text (query a) is params old new has rows h)

        -- the first rows of the result
        pub returned_first : IsAsked a → (old : State) → old.now.schema ≡ a.schema → (xs : List X) → Rises cmp xs
            → HasRows (map row xs) (old.now.trees a.tree) → (rows : List Row) → Begins a.text params old rows
            → (tail : List Row) × (map row (filter p xs) ≡ rows ++ tail)
        returned_first is old has xs up had rows h =
            let it = begins a.schema a.text (query a) is params old has rows h in
            (it.0, sym (answer_is old.now xs up had (rows ++ it.0) it.1))

      -- if each row passes
      pub returned_all : ((x : X) → picks (Null ∷ row x) ≡ true) → IsAsked a → (old new : State) → old.now.schema ≡ a.schema
          → (xs : List X) → Rises cmp xs → HasRows (map row xs) (old.now.trees a.tree)
          → (rows : List Row) → Shown a.text params old new rows → rows ≡ map row xs
      returned_all = returned_all_shown row row cmp whole less

      -- a part of the table
      pub returned_part : IsAsked a → (old new : State) → old.now.schema ≡ a.schema → (have : List Row) (xs : List X)
          → Rises cmp xs → filter (λ v. picks (Null ∷ v)) have ≡ map row xs → HasRows have (old.now.trees a.tree)
          → (rows : List Row) → Shown a.text params old new rows → rows ≡ map row xs
      returned_part = returned_part_shown row row cmp whole less

-- A table whose rows are added at its end, each numbered by its place: what its INSERT makes of it. Its first column is the number, and is given as NULL.
use Rattle.std.proofs.Common.{◌≡◌, ℕ, ◌+◌, ◌-◌, ◌/◌, ◌<◌, ◌^◌, pos, List, [], ◌∷◌, ◌++◌, drop, length, slice_get, Some, Ok, ap, ap₂, ◌∙◌, arith, length-append}
use Rattle.sqlite.specs.declared.types.Value.{Value}
use Rattle.sqlite.specs.declared.types.Value.TheVariants.{Null, Int}
use Rattle.sqlite.specs.Order.{Row}
use Rattle.sqlite.specs.Term.{Term, lit}
use Rattle.sqlite.specs.Table.{Table}
use Rattle.sqlite.specs.Schema.{Schema}
use Rattle.sqlite.specs.Command.TheVariants.{Insert}
use Rattle.sqlite.specs.Source.TheVariants.{Values}
use Rattle.sqlite.specs.Cast.{cast_row}
use Rattle.sqlite.specs.Edit.{next_rowid}
use Rattle.sqlite.specs.Effect.{value_rows}
use Rattle.sqlite.specs.Listing.{understood}
use Rattle.sqlite.specs.State.{State, Executes}
use Rattle.sqlite.proofs.Callers.{IsPlain, command_of}
use Rattle.sqlite_trees.specs.Tree.{put_row}
use Rattle.opc_store_sql.specs.Rows.{numbered_rows}
use Rattle.opc_store_sql.proofs.Keyed.{StoresAsIs, parameters, stored}
use Rattle.opc_store_sql.proofs.LastNumber.{number_is}
use Rattle.opc_store_sql.proofs.Numbered.{put_next}
use Rattle.opc_store_sql.proofs.Steps.{IsSimple, cast_null}
use Rattle.opc_store_sql.proofs.Written.{Spares, adds_at_end}

pub record History (X : Type 0) : Type 0 where
  pub schema : Schema
  -- its place in the schema, and itself
  pub place : ℕ
  pub table : Table
  pub insert : List ℕ
  pub values : X → Row

module _ {X : Type 0} (k : History X) where
  abbrev pub terms : List Term
  terms = lit Null ∷ lit Null ∷ parameters 0 (length k.table.columns - 1)

  abbrev pub width : ℕ
  width = length k.table.columns + 1

  abbrev pub params : X → Row
  params x = drop 1 (k.values x)

  -- what the text means, and that the table takes the rows of members; of texts that are written out `refl` shows it
  pub record IsHistory : Type 0 where
    pub is : command_of (understood k.schema k.insert) ≡ Insert k.place (Values terms width)
    pub plain : IsPlain (understood k.schema k.insert)
    pub found : slice_get k.schema.tables k.place ≡ Some k.table
    pub simple : IsSimple k.table
    pub gives : (x : X) → value_rows (params x) width (length terms / width) terms ≡ (Null ∷ k.values x) ∷ []
    pub stores : (x : X) → StoresAsIs k.table.columns (k.values x)

  -- one more, after those that are there; and if its number is one that a table can hold, there are not more rows than
  -- that
  pub record Grows (old new : State) (xs : List X) (x : X) : Type 0 where
    pub spares : Spares k.schema k.table old.now.trees new.now
    pub rows : new.now.trees k.table.tree ≡ numbered_rows k.values 1 (xs ++ x ∷ [])
    pub fits : ((n : ℕ) → new.last_rowid ≡ pos n → n < 2 ^ 63) → length (xs ++ x ∷ []) < 2 ^ 63

  pub grows : IsHistory → (old new : State) (count : ℕ) → old.now.schema ≡ k.schema → (xs : List X)
      → old.now.trees k.table.tree ≡ numbered_rows k.values 1 xs → (x : X)
      → Executes k.insert (params x) old new (Ok count) → Grows old new xs x
  grows is old new count has xs are x h =
      let kept : cast_row k.table (Null ∷ k.values x) ≡ Null ∷ k.values x =
      ap₂ (λ (v : Value) (r : Row). v ∷ r) cast_null (stored k.table.columns (k.values x) (is.stores x)) in
      let it = adds_at_end k.schema k.insert k.place k.table (params x) is.plain is.found old new has count terms width
      is.is is.simple (k.values x) (is.gives x) kept h in
      let last = number_is k.schema k.insert k.place k.table (params x) is.plain is.found old new has count terms width
      is.is is.simple (k.values x) (is.gives x) kept k.values xs are h in
      record {
        spares = it.spares;
        rows = it.rows ∙ (ap (λ (l : List Row). put_row (Int (next_rowid l) ∷ k.values x) l) are ∙ put_next k.values xs x);
        fits = λ low. let short = low (1 + length xs) last in omega (arith, length-append xs (x ∷ []));
      }

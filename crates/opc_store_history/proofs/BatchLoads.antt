-- What the query on a batch reads.
use Rattle.std.proofs.Common.{◌≡◌, ℕ, ◌==◌, pos, List, [], ◌∷◌, map, filter, find, codes, Option, Some, None, Ok, option_map, refl, ap, ◌∙◌}
use Rattle.std.specs.List.{AllByRecursion}
use Rattle.sqlite.specs.Order.{Row}
use Rattle.sqlite.specs.declared.types.Value.TheVariants.{Int, Text}
use Rattle.sqlite.specs.Term.{col, op2}
use Rattle.sqlite.specs.Listing.{understood}
use Rattle.sqlite.specs.State.{State as SqlState, Shown}
use Rattle.sqlite_sql.specs.declared.ops.BinaryOp.TheVariants.{Compare}
use Rattle.sqlite_sql.specs.declared.ops.CompareOp.TheVariants.{Eq}
use Rattle.sqlite_value.specs.declared.keys.Collation.TheVariants.{Binary}
use Rattle.sqlite_tied.specs.Compute.{everything}
use Rattle.opc_store_sql.proofs.Asked.{Asked, IsAsked, by_columns, columns, returned_numbers}
use Rattle.opc_store_sql.proofs.Numbered.{number_cmp}
use Rattle.opc_store_sql.proofs.Values.{equal_numbers, and_true}
use Rattle.opc_store_sql.proofs.Parts.{found_one}
use Rattle.opc_import.specs.Files.{policy_of}
use Rattle.opc_import.specs.Lines.{policy_text}
use Rattle.opc_state.specs.declared.change.Batch.{Batch}
use Rattle.opc_state.specs.Members.{batch_cmp}
use Rattle.opc_state.specs.Loads.{batch_rows}
use Rattle.opc_state.specs.State.{State}
use Rattle.opc_store_schema.specs.State.{IsReadBack}
use Rattle.opc_store_history.specs.Loads.{kept_text}
use Rattle.opc_store_schema.specs.Placed.{batches_at}
use Rattle.opc_store_schema.specs.Tables.{the_schema}
use Rattle.opc_store_schema.specs.Represented.{Represents, batch_row}

abbrev pub batch : Asked
batch = record {
  schema = the_schema;
  text = codes "SELECT rows FROM batches WHERE number = ?1 ORDER BY number";
  tree = batches_at.tree;
  tests = op2 (Compare Eq Binary) (col 1 0) (col 0 0) ∷ [];
  project = columns 2 1;
  order = by_columns 0 1;
}

pub batch_asked : IsAsked batch
unfolding understood everything
batch_asked = record { selects = refl; unlisted = refl; plain = (refl, refl); shows = λ schema base. refl }

abbrev pub batch_shown : Batch → Row
batch_shown b = Text (policy_text b.rows) ∷ []

pub batch_returned : (old new : SqlState) (s : State) → Represents old.now s → (number : ℕ) (rows : List Row)
    → Shown batch.text (Int (pos number) ∷ []) old new rows
    → rows ≡ map batch_shown (filter (λ (b : Batch). b.number == number) s.batches)
batch_returned old new s was number =
    returned_numbers batch (Int (pos number) ∷ []) batch_row batch_cmp (λ x y h. rw (number_cmp x.number y.number, h))
    (λ b. b.number == number) (λ b. and_true _ ∙ equal_numbers b.number number) batch_asked old new was.rows.schema
    s.batches was.ordered.batches was.rows.holds.batches

-- the rows of a batch are read back from the text that is stored
pub read_back : (batches : List Batch) (number : ℕ) → AllByRecursion IsReadBack batches → (text : List ℕ)
    → Some text ≡ kept_text batches number → (b : Batch) × (policy_of text ≡ Ok b.rows)
    × (batch_rows batches number ≡ Some b.rows)
read_back batches number all text is = go (find (λ (b : Batch). b.number == number) batches) refl is
  where
    go : (o : Option Batch) → find (λ (b : Batch). b.number == number) batches ≡ o
        → Some text ≡ option_map (λ (b : Batch). policy_text b.rows) o → (b : Batch) × (policy_of text ≡ Ok b.rows)
        × (batch_rows batches number ≡ Some b.rows)
    go None e h = absurd cc
    go (Some b) e h =
        let same : text ≡ policy_text b.rows = cc in
        (b, ap policy_of same ∙ found_one IsReadBack (λ (b : Batch). b.number == number) batches b all e, ap (option_map (λ (b : Batch). b.rows)) e)

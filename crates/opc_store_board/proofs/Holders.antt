-- A column that names who has a row, or is NULL.
use Rattle.std.proofs.Common.{◌≡◌, ℕ, List, Option, Some, None, true, refl, sym, ap}
use Rattle.std.proofs.lemmas.Slice.Eq.{bytes_eq-Decides}
use Rattle.sqlite.specs.declared.types.Value.TheVariants.{Text}
use Rattle.sqlite.specs.Ops.{binary, is_true}
use Rattle.sqlite_sql.specs.declared.ops.BinaryOp.TheVariants.{Compare}
use Rattle.sqlite_sql.specs.declared.ops.CompareOp.TheVariants.{Eq}
use Rattle.sqlite_value.specs.declared.keys.Collation.TheVariants.{Binary}
use Rattle.opc_board.specs.Units.{is_holder}
use Rattle.opc_store_schema.specs.Represented.{text_or_null}
use Rattle.opc_store_sql.proofs.Values.{same_texts}

-- NULL is nobody's name
pub equals_holder : (name : List ℕ) (holder : Option (List ℕ)) → is_true (binary (Compare Eq Binary) (text_or_null holder) (Text name)) ≡ is_holder name holder
unfolding binary
equals_holder name None = refl
equals_holder name (Some holder) = same_texts holder name

pub the_holder : (name : List ℕ) (holder : Option (List ℕ)) → is_holder name holder ≡ true → Some name ≡ holder
the_holder name None h = absurd cc
the_holder name (Some holder) h = let same : holder ≡ name = (bytes_eq-Decides holder name).0 h in ap (λ n. Some n) (sym same)

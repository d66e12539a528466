-- Values of SQL, compared.
use Rattle.std.proofs.Common.{◌≡◌, ℕ, pos, List, Bool, true, false, ◌&&◌, refl, ap, ◌∙◌, ◌==◌, is_eq, nat_lt, arith}
use Rattle.std.specs.Ordering.{nat_cmp, is_gt}
use Rattle.std.specs.Str.{bytes_eq}
use Rattle.std.proofs.lemmas.Map.Text.{is_eq-slice_cmp}
use Rattle.sqlite.specs.declared.types.Value.TheVariants.{Int, Text}
use Rattle.sqlite.specs.Ops.{binary, is_true, from_truth}
use Rattle.sqlite_sql.specs.declared.ops.BinaryOp.TheVariants.{Compare}
use Rattle.sqlite_sql.specs.declared.ops.CompareOp.TheVariants.{Eq, Gt}
use Rattle.sqlite_value.specs.declared.keys.Collation.TheVariants.{Binary}
use Rattle.sqlite_value.proofs.OrderLemmas.{value_cmp-Text}
use Rattle.sqlite.specs.Order.{value_cmp}
use Rattle.std.specs.Prelude.{Some}
use Rattle.opc_store_sql.specs.Order.{text_cmp}
use Rattle.opc_store_sql.proofs.Numbered.{number_cmp}
use Rattle.std.proofs.lemmas.Bool.Decides.{nat_tests}

truth_is : (b : Bool) → is_true (from_truth (Some b)) ≡ b
truth_is true = refl
truth_is false = refl

pub equal_texts : (a b : List ℕ) → is_true (binary (Compare Eq Binary) (Text a) (Text b)) ≡ is_eq (text_cmp a b)
unfolding binary
equal_texts a b = truth_is (is_eq (value_cmp (Text a) (Text b))) ∙ ap is_eq (value_cmp-Text a b)

pub same_texts : (a b : List ℕ) → is_true (binary (Compare Eq Binary) (Text a) (Text b)) ≡ bytes_eq a b
same_texts a b = equal_texts a b ∙ is_eq-slice_cmp a b

pub and_true : (b : Bool) → (b && true) ≡ b
and_true true = refl
and_true false = refl

pub same_numbers : (a b : ℕ) → is_eq (nat_cmp a b) ≡ (a == b)
same_numbers a b = grind (arith, nat_tests)

pub equal_numbers : (a b : ℕ) → is_true (binary (Compare Eq Binary) (Int (pos a)) (Int (pos b))) ≡ (a == b)
unfolding binary
equal_numbers a b = truth_is (is_eq (value_cmp (Int (pos a)) (Int (pos b)))) ∙ (ap is_eq (number_cmp a b) ∙ same_numbers a b)

later_number : (a b : ℕ) → is_gt (nat_cmp a b) ≡ nat_lt b a
later_number a b = grind (arith, nat_tests)

pub number_past : (a b : ℕ) → is_true (binary (Compare Gt Binary) (Int (pos a)) (Int (pos b))) ≡ nat_lt b a
unfolding binary
number_past a b = truth_is (is_gt (value_cmp (Int (pos a)) (Int (pos b)))) ∙ (ap is_gt (number_cmp a b) ∙ later_number a b)

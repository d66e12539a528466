-- Batches by their numbers.
use Rattle.std.proofs.Common.{◌≡◌, ◌<◌, ℕ, true, cond, ◌==◌, List, Some, refl, sym, ap, ◌∙◌, arith}
use Rattle.std.specs.Cmp.{ranks}
use Rattle.std.specs.Ordering.{MatchOrdering, nat_cmp}
use Rattle.std.specs.declared.cmp.Ordering.{Ordering}
use Rattle.std.specs.declared.cmp.Ordering.TheVariants.{Less, Equal, Greater}
use Rattle.std.proofs.lemmas.Bool.Decides.{nat_tests}
use Rattle.opc_state.specs.declared.change.Batch.{Batch}
use Rattle.opc_state.specs.Members.{batch_cmp, with_batch}
use Rattle.opc_machine.specs.Imports.{batch_of}
use Rattle.opc_machine_laws.specs.RowLaws.{BatchesAreKept}
use Rattle.opc_machine_laws.proofs.AtNames.{apart_numbers, number_itself}
use Rattle.opc_machine_laws.proofs.Finding.{Ties, find_replaced}
use Rattle.opc_machine_laws.proofs.Keys.{all_of}

-- numbers that tie are the same

tied : (m n : ℕ) → nat_cmp m n ≡ Equal → m ≡ n
tied m n h = go (nat_cmp m n) h (ranks m n)
  where
    go : (o : Ordering) → o ≡ Equal → MatchOrdering o (m < n) (m ≡ n) (n < m) → m ≡ n
    go Less e is = absurd (cc)
    go Equal e is = is
    go Greater e is = absurd (cc)

tie : (m n : ℕ) → m ≡ n → nat_cmp m n ≡ Equal
tie m n same = go (nat_cmp m n) refl (ranks m n)
  where
    go : (o : Ordering) → nat_cmp m n ≡ o → MatchOrdering o (m < n) (m ≡ n) (n < m) → nat_cmp m n ≡ Equal
    go Less at is = absurd (omega (arith, is, same))
    go Equal at is = at
    go Greater at is = absurd (omega (arith, is, same))

same_number : (m n : ℕ) → (m == n) ≡ true → m ≡ n
same_number m n h = grind (arith, nat_tests, h)

found : (batch : Batch) (number : ℕ) (batches : List Batch)
    → batch_of (with_batch batch batches) number ≡ cond (batch.number == number) (Some batch) (batch_of batches number)
found batch number batches =
    find_replaced batch_cmp (λ (b : Batch). b.number == number) batch
    (λ b one other. tie batch.number b.number (same_number batch.number number one ∙ sym (same_number b.number number other))) batches
    (all_of (Ties batch_cmp (λ (b : Batch). b.number == number) batch) (λ b t. ap (λ n. n == number) (sym (tied batch.number b.number t))) batches)

pub batches_kept : BatchesAreKept
batches_kept batch batches = record {
  here = found batch batch.number batches ∙ ap (λ t. cond t (Some batch) (batch_of batches batch.number)) (number_itself batch.number);
  others = λ other apart. found batch other batches
      ∙ ap (λ t. cond t (Some batch) (batch_of batches other)) (apart_numbers batch.number other (λ e. apart (sym e)));
}

-- The words of rulings.
use Rattle.std.proofs.Common.{◌≡◌, ◌<◌, ℕ, Bool, Some, true, false, refl, sym, ap, if◌then◌else◌, codes, slice_index, arith}
use Rattle.opc_policy.specs.declared.ruling.Ruling.TheVariants.{Allowed, Denied}
use Rattle.opc_machine.specs.Machine.{is_warned}
use Rattle.opc_answers.specs.Laws.{SaysWhatIsDenied}

apart : (n m : ℕ) → m < n → n ≡ m → ⊥
apart n m less same = omega (arith, less, same)

other_word : (b : Bool) → (if b then codes "WARNED" else codes "ALLOWED") ≡ codes "DENIED" → ⊥
other_word true h = apart 87 68 (omega arith) (ap (λ t. slice_index t 0) h)
other_word false h = apart 68 65 (omega arith) (sym (ap (λ t. slice_index t 0) h))

pub denied_so : SaysWhatIsDenied
denied_so (Allowed rule) = (λ h. absurd (other_word (is_warned (Some rule)) h), λ h. absurd (cc))
denied_so (Denied rule) = (λ h. refl, λ h. refl)

-- A profile has N17 exactly if its pattern is not met, and one that is met has N20 exactly if it decides nothing.
use Rattle.std.proofs.Common.{◌≡◌, Bool, true, false, ◌&&◌, ℕ, List, refl, sym, ap, ◌∙◌, None}
use Rattle.std.specs.Prelude.{not}
use Rattle.opc_check_reach.specs.Forms.{decides}
use Rattle.opc_check_reach.proofs.Asked.{so_decides}
use Rattle.opc_check_reach.proofs.Formed.{decides_so, met_decides}
use Rattle.opc_check_notes.specs.declared.note.Finding.{Finding}
use Rattle.opc_check_notes.specs.declared.note.Finding.TheVariants as found
use Rattle.opc_check_notes.specs.Met.{is_met}
use Rattle.opc_check_notes.specs.Notes.{if_so}
use Rattle.opc_check_notes.specs.Preceding.{all_before}
use Rattle.opc_answers_laws.specs.NoteLaws.{NotedUnlessDeciding, NotedUnlessMet}

-- nothing is found exactly if the test fails
none_if : (holds : Bool) (finding : Finding) → holds ≡ true → if_so (not holds) finding ≡ None
none_if holds finding h = ap (λ t. if_so (not t) finding) h

none_only : (holds : Bool) (finding : Finding) → if_so (not holds) finding ≡ None → holds ≡ true
none_only true finding h = refl
none_only false finding h = cc h

pub noted_unless_met : NotedUnlessMet
noted_unless_met pattern uacc owner warns valid =
    (λ none. (met_decides pattern).0 (none_only (is_met pattern) _ none), λ met. none_if (is_met pattern) _ ((met_decides pattern).1 met))

pub noted_unless_deciding : NotedUnlessDeciding
noted_unless_deciding list pattern uacc owner warns met = (
  λ none. so_decides pattern (all_before list pattern)
      (none_only (decides pattern (all_before list pattern)) (found.NeverDecides pattern) (sym of_met ∙ none)),
  λ decided. of_met ∙ none_if (decides pattern (all_before list pattern)) (found.NeverDecides pattern) (decides_so pattern (all_before list pattern) decided),
)
  where
    of_met : if_so (is_met pattern && not (decides pattern (all_before list pattern))) (found.NeverDecides pattern)
        ≡ if_so (not (decides pattern (all_before list pattern))) (found.NeverDecides pattern)
    of_met = ap (λ b. if_so (b && not (decides pattern (all_before list pattern))) (found.NeverDecides pattern))
        ((met_decides pattern).1 met)

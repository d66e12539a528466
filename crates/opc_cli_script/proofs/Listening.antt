-- One more answer is received.
use Rattle.std.proofs.Common.{ℕ, List, [], ◌∷◌, ◌++◌, refl, subst}
use Rattle.opc_machine.specs.declared.request.Request.{Request}
use Rattle.opc_machine.specs.declared.request.Answer.{Answer}
use Rattle.opc_cli_script.specs.Listening.{AreHeard}

pub heard_more : {L : Type 0} (heard : L → ℕ → Answer → L → Type 0) (rs : List (ℕ × Request)) (answers : List Answer)
    (from mid to : L) (r : ℕ × Request) (answer : Answer)
    → AreHeard heard rs answers from mid → heard mid r.0 answer to → AreHeard heard (rs ++ r ∷ []) (answers ++ answer ∷ []) from to
heard_more heard [] [] from mid to r answer same one = (to, subst (λ l. heard l r.0 answer to) same one, refl)
heard_more heard [] (a ∷ answers) from mid to r answer are one = absurd are
heard_more heard (q ∷ rs) [] from mid to r answer are one = absurd are
heard_more heard (q ∷ rs) (a ∷ answers) from mid to r answer are one = (are.0, are.1, heard_more heard rs answers are.0 mid to r answer are.2 one)

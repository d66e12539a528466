-- What is gathered of forms, part by part: their rows, or the operands of a verb.
use Rattle.std.proofs.Common.{◌≡◌, ◌++◌, ◌∙◌, List, ap, append_assoc, sym}
use Rattle.opc_cli_commands.specs.Commands.{TableForm}

regrouped : {X : Type 0} (h a b c d : List X) → (((h ++ a) ++ b) ++ c) ++ d ≡ h ++ (a ++ (b ++ (c ++ d)))
regrouped h a b c d = append_assoc ((h ++ a) ++ b) c d ∙ append_assoc (h ++ a) b (c ++ d) ∙ append_assoc h a (b ++ (c ++ d))

module _ {X : Type 0} (gathered : List TableForm → List X)
    (more : (one other : List TableForm) → gathered (one ++ other) ≡ gathered one ++ gathered other) where
  of_four : (a b c d : List TableForm)
      → gathered (a ++ (b ++ (c ++ d))) ≡ gathered a ++ (gathered b ++ (gathered c ++ gathered d))
  of_four a b c d =
      more a (b ++ (c ++ d))
      ∙ ap (λ (t : List X). gathered a ++ t) (more b (c ++ d) ∙ ap (λ (t : List X). gathered b ++ t) (more c d))

  -- a beginning, and what is gathered of four lists of forms, added one after another
  pub added : (a b c d : List TableForm) (h zero one two three all : List X) → zero ≡ h → one ≡ zero ++ gathered a
      → two ≡ one ++ gathered b → three ≡ two ++ gathered c → all ≡ three ++ gathered d
      → all ≡ h ++ gathered (a ++ (b ++ (c ++ d)))
  added a b c d h zero one two three all at_zero at_one at_two at_three at_all =
      at_all
      ∙ ap (λ (t : List X). t ++ gathered d) (at_three
      ∙ ap (λ (t : List X). t ++ gathered c) (at_two
      ∙ ap (λ (t : List X). t ++ gathered b) (at_one
      ∙ ap (λ (t : List X). t ++ gathered a) at_zero)))
      ∙ regrouped h (gathered a) (gathered b) (gathered c) (gathered d)
      ∙ ap (λ (t : List X). h ++ t) (sym (of_four a b c d))

-- What an import that is tried says of a batch.
use Rattle.std.proofs.Common.{◌≡◌, ◌∙◌, ◌++◌, ◌∷◌, ℕ, List, [], Option, Some, None, Bor, MatchOption, ap, codes, get_or, option_map, refl, sym}
use Rattle.std.specs.Str.Pattern.{FindsTextSuffix, StripsSuffix}
use Rattle.opc_board.specs.declared.line.Line.{Line}
use Rattle.opc_cli_program.specs.DryRuns.{IsKeptBatch}

first_is : (one other : Line) → one ∷ [] ≡ other ∷ [] → one ≡ other
first_is one other same = ap (λ (l : List Line). get_or l 0 one) same

pub says_kept : (line : Line) (r : Option (Bor (List ℕ)))
    → MatchOption r (FindsTextSuffix (codes " KEPT") line.text None) (λ x. StripsSuffix (FindsTextSuffix (codes " KEPT")) line.text x.now)
    → IsKeptBatch (line ∷ []) (option_map (λ (b : Bor (List ℕ)). b.now) r)
says_kept line None h = λ other batch same ends. h batch (ap (λ (l : Line). l.text) (first_is line other same) ∙ ends)
says_kept line (Some x) h = (line, refl, h.1.1 ∙ ap (λ l. l ++ codes " KEPT") (sym h.2))

-- What a script's run prints.
use Rattle.std.specs.Prelude.{◌∷◌, ◌++◌, ℕ, List, [], codes}
use Rattle.std.specs.Fmt.{decimal}
use Rattle.std.specs.List.{flat_map}
use Rattle.opc_board.specs.declared.line.Line.{Line}
use Rattle.opc_board.specs.Texts.{columns}
use Rattle.opc_terms.specs.Faults.{fault_code, fault_text}
use Rattle.opc_terms.specs.Rules.{rule_text_or_none}
use Rattle.opc_machine.specs.declared.request.Request.{Request}
use Rattle.opc_machine.specs.declared.request.Answer.{Answer}
use Rattle.opc_machine.specs.declared.request.Answer.TheVariants.{Done, Refused}

-- 10 is the line feed
abbrev pub ended : List ℕ → List ℕ
ended text = text ++ 10 ∷ []

-- a line of an answer stands after two spaces
abbrev pub shown_line : Line → List ℕ
shown_line line = ended (codes "  " ++ line.text)

-- The text of an answer: timestamp, outcome of the request and its rule, and then the lines.
abbrev pub answer_text : ℕ → Answer → List ℕ
answer_text moment (Done lines rule) = ended (columns (decimal moment ∷ codes "DONE" ∷ rule_text_or_none rule ∷ []))
    ++ flat_map shown_line lines
answer_text moment (Refused fault rule) =
    ended (columns (decimal moment ∷ codes "REFUSED" ∷ fault_code fault ∷ fault_text fault ∷ rule_text_or_none rule
    ∷ []))

abbrev pub transcript : List (ℕ × Request) → List Answer → List ℕ
transcript (r ∷ requests) (answer ∷ answers) = answer_text r.0 answer ++ transcript requests answers
transcript requests answers = []

abbrev pub bad_line_text : ℕ → List ℕ
bad_line_text number = ended (columns (codes "BAD LINE" ∷ decimal number ∷ []))

-- The outcomes of lines, and what is printed of them.
use Rattle.std.specs.Prelude.{◌≡◌, ◌+◌, ◌++◌, ◌∷◌, ℕ, Bool, true, false, List, [], Option, Some, None}
use Rattle.std.specs.List.{flat_map, list_any}
use Rattle.std.specs.Option.{option_to_list}
use Rattle.opc_machine.specs.declared.request.Answer.{Answer}
use Rattle.opc_machine.specs.declared.request.Request.{Request}
use Rattle.opc_machine.specs.declared.request.Request.TheVariants.{Command}
use Rattle.opc_cli_failures.specs.declared.status.Status.{Status}
use Rattle.opc_cli_failures.specs.declared.status.Status.TheVariants.{BadInput, Failed}
use Rattle.opc_cli_script.specs.Scripts.{is_blank, untimed_request_in}
use Rattle.opc_cli_script.specs.Statuses.{status_of}
use Rattle.opc_cli_script.specs.Transcripts.{answer_text, bad_line_text}
use Rattle.opc_cli_script.specs.declared.reading_now.Typed.{Typed}
use Rattle.opc_cli_script.specs.declared.reading_now.Typed.TheVariants.{Line, NotUtf8, LongLine, End}
use Rattle.opc_cli_script.specs.declared.session.Standing.{Standing}
use Rattle.opc_cli_script.specs.declared.turn.Turn.{Turn}
use Rattle.opc_cli_script.specs.declared.turn.Turn.TheVariants.{Blank, Bad, Answered}

-- The request of a line: a command if it is typed at a console, or what a line of a script is without its timestamp.
abbrev pub request_on : Option (List ℕ) → List ℕ → Option Request
request_on (Some console) line = Some (Command console line)
request_on None line = untimed_request_in line

-- The outcome of a line that is read as a text.
abbrev pub IsTurnOfLine : Option (List ℕ) → List ℕ → Turn → Type 0
IsTurnOfLine console line Blank = is_blank line ≡ true
IsTurnOfLine console line Bad = (is_blank line ≡ false) × (request_on console line ≡ None)
IsTurnOfLine console line (Answered moment request answer) =
    (is_blank line ≡ false) × (request_on console line ≡ Some request)

-- The turn of any line; one that is no text or too long is bad.
abbrev pub IsTurnOf : Option (List ℕ) → Typed → Turn → Type 0
IsTurnOf console (Line line) turn = IsTurnOfLine console line turn
IsTurnOf console NotUtf8 turn = turn ≡ Bad
IsTurnOf console LongLine turn = turn ≡ Bad
IsTurnOf console End turn = ⊥

-- this request was handled
abbrev pub IsAnswerOf : Request → Turn → Type 0
IsAnswerOf request turn = (moment : ℕ) × (answer : Answer) × (turn ≡ Answered moment request answer)

-- what is printed of the line with this number
abbrev pub turn_text : ℕ → Turn → List ℕ
turn_text number Blank = []
turn_text number Bad = bad_line_text number
turn_text number (Answered moment request answer) = answer_text moment answer

-- and of lines, the first of which has this number
abbrev pub turns_text : ℕ → List Turn → List ℕ
turns_text number [] = []
turns_text number (turn ∷ turns) = turn_text number turn ++ turns_text (number + 1) turns

abbrev pub request_of : Turn → Option (ℕ × Request)
request_of (Answered moment request answer) = Some (moment, request)
request_of turn = None

abbrev pub answer_of : Turn → Option Answer
answer_of (Answered moment request answer) = Some answer
answer_of turn = None

-- the requests of turns, with their timestamps, in order
abbrev pub requests_of : List Turn → List (ℕ × Request)
requests_of turns = flat_map (λ turn. option_to_list (request_of turn)) turns

-- and their answers
abbrev pub answers_of : List Turn → List Answer
answers_of turns = flat_map (λ turn. option_to_list (answer_of turn)) turns

abbrev pub is_bad : Turn → Bool
is_bad Bad = true
is_bad turn = false

-- a bad line counts for more than a refusal, and for less than a failure
abbrev pub status_with : Status → (is_bad : Bool) → Status
status_with Failed bad = Failed
status_with status true = BadInput
status_with status false = status

-- by their answers, and whether one of them was bad
abbrev pub IsStandingOf : List Turn → Standing → Type 0
IsStandingOf turns standing =
    (standing.answered ≡ status_of (answers_of turns)) × (standing.is_bad ≡ list_any is_bad turns)

-- The outcome of turns.
abbrev pub status_of_turns : List Turn → Status
status_of_turns turns = status_with (status_of (answers_of turns)) (list_any is_bad turns)

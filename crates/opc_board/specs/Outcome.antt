-- The outcome of a command or an event.
use Rattle.std.specs.Prelude.{
  ◌≡◌,
  ◌≢◌,
  Bool,
  if◌then◌else◌,
  List,
  [],
  ◌∷◌,
  Option,
  Some,
  None,
  Result,
  Ok,
  Err,
  MatchResult,
}
use Rattle.opc_board.specs.declared.board.BoardRows.{BoardRows}
use Rattle.opc_board.specs.declared.fault.BoardFault.{BoardFault}
use Rattle.opc_board.specs.declared.fault.BoardFault.TheVariants.{NoMemory}
use Rattle.opc_board.specs.declared.line.Line.{Line}

-- the board afterwards, and the lines
pub record Done : Type 0 where
  pub board : BoardRows
  pub lines : List Line

abbrev pub BoardOutcome : Type 0
BoardOutcome = Result Done BoardFault

abbrev pub done_with : BoardRows → List Line → BoardOutcome
done_with board lines = Ok (record { board = board; lines = lines })

-- done without a line
abbrev pub done : BoardRows → BoardOutcome
done board = done_with board []

-- A call without lines had this outcome: the new board is that of the outcome, or the call met the outcome's fault and
-- left the board as it was.
abbrev pub ComesTo : (old new : BoardRows) → BoardOutcome → Result Unit BoardFault → Type 0
ComesTo old new outcome result = MatchResult result (λ _. outcome ≡ done new)
    (λ fault. (new ≡ old) × (outcome ≡ Err fault))

-- the same of a call that allocates, which may fail
abbrev pub ComesToOrNoMemory : (old new : BoardRows) → BoardOutcome → Result Unit BoardFault → Type 0
ComesToOrNoMemory old new outcome result =
    MatchResult result (λ _. outcome ≡ done new) (λ fault. (new ≡ old) × (fault ≢ NoMemory → outcome ≡ Err fault))

-- the first of these faults that applies, and otherwise the outcome
abbrev pub faults_or : List (Bool × BoardFault) → BoardOutcome → BoardOutcome
faults_or [] outcome = outcome
faults_or ((there, fault) ∷ faults) outcome = if there then Err fault else faults_or faults outcome

-- what was found, or this fault if nothing was
abbrev pub found : {A : Type 0} → BoardFault → Option A → Result A BoardFault
found fault (Some x) = Ok x
found fault None = Err fault

infixl 10 ◌>>=◌
abbrev pub ◌>>=◌ : {A B : Type 0} → Result A BoardFault → (A → Result B BoardFault) → Result B BoardFault
(Ok x) >>= f = f x
(Err fault) >>= f = Err fault

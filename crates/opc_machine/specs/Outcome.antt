-- The outcome of a request: what it does and by which rule, or why it is refused.
use Rattle.std.specs.Prelude.{Bool, true, false, List, Option, Some, None, Result, Ok, Err}
use Rattle.opc_terms.specs.declared.fault.Fault.{Fault}
use Rattle.opc_terms.specs.declared.rule.Rule.{Rule}
use Rattle.opc_board.specs.declared.line.Line.{Line}
use Rattle.opc_state.specs.State.{State}
use Rattle.opc_machine.specs.declared.outcome.Refusal.{Refusal}

-- an effect, by the state afterwards: that state, the lines of the answer, and the rule that decided
pub record StateEffect : Type 0 where
  pub state : State
  pub lines : List Line
  pub rule : Option Rule

abbrev pub StateOutcome : Type 0
StateOutcome = Result StateEffect Refusal

-- one test after another: the first that fails is the refusal
infixl 10 ◌>>=◌
abbrev pub ◌>>=◌ : {A B : Type 0} → Result A Refusal → (A → Result B Refusal) → Result B Refusal
(Ok x) >>= f = f x
(Err refusal) >>= f = Err refusal

abbrev pub does : State → List Line → Option Rule → StateOutcome
does s lines rule = Ok (record { state = s; lines = lines; rule = rule })

abbrev pub refused : {A : Type 0} → Fault → Option Rule → Result A Refusal
refused fault rule = Err (record { fault = fault; rule = rule })

-- what was found, or this fault if nothing was
abbrev pub found : {A : Type 0} → Fault → Option A → Result A Refusal
found fault (Some x) = Ok x
found fault None = refused fault None

abbrev pub refuse_if : Fault → Option Rule → Bool → Result (Unit {0}) Refusal
refuse_if fault rule true = refused fault rule
refuse_if fault rule false = Ok tt

-- its result, or its fault, which no rule decided
abbrev pub or_refused : {A : Type 0} → Result A Fault → Result A Refusal
or_refused (Ok x) = Ok x
or_refused (Err fault) = refused fault None

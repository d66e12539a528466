-- What is found out about a request without a change, compared with the outcome of the machine.
use Rattle.std.specs.Prelude.{◌≡◌, [], Ok, Err}
use Rattle.opc_state.specs.State.{State}
use Rattle.opc_state.specs.Changes.{all_edited}
use Rattle.opc_machine.specs.declared.outcome.Effect.{Effect}
use Rattle.opc_machine.specs.declared.outcome.Outcome.{Outcome}
use Rattle.opc_machine.specs.declared.outcome.Outcome.TheVariants.{Done, Refused}
use Rattle.opc_machine.specs.Outcome.{StateOutcome}

-- The effect is that of the machine, and has no edits if it leaves the state as it is.
pub record IsEffect (s : State) (o : StateOutcome) (effect : Effect) : Type 0 where
  pub makes : o ≡ Ok (record { state = all_edited effect.edits.items s; lines = effect.lines; rule = effect.rule })
  pub idle : all_edited effect.edits.items s ≡ s → effect.edits.items ≡ []

-- What was found out without a change is the outcome of the machine: the effect's state, lines and rule, or the
-- refusal.
abbrev pub IsOutcome : State → StateOutcome → Outcome → Type 0
IsOutcome s o (Done effect) = IsEffect s o effect
IsOutcome s o (Refused refusal) = o ≡ Err refusal

-- What is found out about the console of a request, and about who acts there.
use Rattle.std.specs.Prelude.{◌≡◌, ℕ, List, Result, Ok, Err}
use Rattle.opc_board.specs.declared.rows.ConsoleRow.{ConsoleRow}
use Rattle.opc_policy_members.specs.declared.policy.Policy.{Policy}
use Rattle.opc_state.specs.Invariants.{IsConsoleOfStored}
use Rattle.opc_state.specs.State.{State}
use Rattle.opc_machine.specs.declared.outcome.Refusal.{Refusal}
use Rattle.opc_machine.specs.Commands.{console_for}
use Rattle.opc_machine.specs.Rights.{console_asking}
use Rattle.opc_machine.specs.Rulings.{acting}
use Rattle.opc_gate_rulings.specs.declared.requester.Asking.{Asking}
use Rattle.opc_gate_rulings.specs.declared.requester.Asking.TheVariants.{By, Refused}

-- the console that is named, or why there is none
abbrev pub IsConsoleFor : State → List ℕ → Result ConsoleRow Refusal → Type 0
IsConsoleFor s name (Ok console) = console_for s name ≡ Ok console
IsConsoleFor s name (Err refusal) = console_for s name ≡ Err refusal

-- the console of a request and who acts there, or why it may not make one
abbrev pub IsRequester : State → List ℕ → Asking → Type 0
IsRequester s name (By asking) = (console_asking s name ≡ Ok asking.console) × (asking.user ≡ acting s asking.console)
IsRequester s name (Refused refusal) = console_asking s name ≡ Err refusal

-- the user who is logged on at the console of a request is stored
abbrev pub IsOfStored : Policy → Asking → Type 0
IsOfStored p (By asking) = IsConsoleOfStored p asking.console
IsOfStored p (Refused refusal) = Unit {0}

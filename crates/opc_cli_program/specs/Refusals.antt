-- Why an import is refused at a console.
use Rattle.std.specs.Prelude.{◌≡◌, ℕ, List, Option, Some, None, IfSome}
use Rattle.opc_terms.specs.declared.fault.Fault.TheVariants as fault
use Rattle.opc_state.specs.State.{State}
use Rattle.opc_machine.specs.Inputs.{Input, console_of}
use Rattle.opc_machine.specs.Machine.{user_acting}
use Rattle.opc_cli_failures.specs.declared.failure.Failure.{Failure}
use Rattle.opc_cli_failures.specs.declared.failure.Place.{Place}
use Rattle.opc_cli_failures.specs.declared.failure.Place.TheVariants.{Console}
use Rattle.opc_cli_failures.specs.declared.reason.Reason.{Reason}
use Rattle.opc_cli_failures.specs.declared.reason.Reason.TheVariants.{NobodyOn, NotSpecial}

-- nobody acts there, or this user
abbrev pub reason_of : Option (List ℕ) → Reason
reason_of None = NobodyOn
reason_of (Some user) = NotSpecial user

-- the console, and why nobody with SPECIAL is found there
abbrev pub who_is_there : (console : List ℕ) → (user : Option (List ℕ)) → Place × Reason
who_is_there console user = (Console console, reason_of user)

-- The console of the request is named, and the user for whom it acts.
pub record NamesWho (s : State) (r : Input) (told : Place × Reason) : Type 0 where
  pub console : List ℕ
  pub named : console_of r ≡ Some console
  pub is : told ≡ who_is_there console (user_acting s r)

-- If nobody with SPECIAL acts there, nothing more is reported, or that.
abbrev pub TellsWho : State → Input → Failure → Type 0
TellsWho s r failure = failure.fault ≡ fault.NotSpecial → IfSome failure.cause (NamesWho s r)

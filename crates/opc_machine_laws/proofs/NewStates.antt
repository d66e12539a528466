-- What new tables mean, and how many rows have numbers.
use Rattle.std.proofs.Common.{◌≡◌, false, refl}
use Rattle.opc_names.specs.declared.class.Class.{Class}
use Rattle.opc_names.specs.declared.class.Class.TheVariants.{Console, Opercmds}
use Rattle.opc_policy_members.specs.Taken.{is_active}
use Rattle.opc_state.specs.State.{Fits, State, empty}
use Rattle.opc_machine_laws.specs.NewStateLaws.{HasNumbers, NewStatesAreEmpty, NumbersSuffice}

inactive : (class : Class) → is_active empty.policy.active class ≡ false
inactive Console = refl
inactive Opercmds = refl

pub new_states : NewStatesAreEmpty
new_states = record {
  users = λ id. refl;
  groups = λ name. refl;
  connects = λ user. refl;
  profiles = λ class pattern. refl;
  inactive = inactive;
  units = λ name. refl;
  devices = λ number. refl;
  consoles = λ name. refl;
  replies = λ id. refl;
  answered = refl;
  log = refl;
  messages = refl;
  not_halted = refl;
  account = refl;
  batches = λ number. refl;
}

few : (s : State) → HasNumbers s → Fits s
few s (account, answered, log, messages) = record { account = account; answered = answered; log = log; messages = messages }

pub numbers_suffice : NumbersSuffice
numbers_suffice s = (λ fits. (fits.account, fits.answered, fits.log, fits.messages), few s)

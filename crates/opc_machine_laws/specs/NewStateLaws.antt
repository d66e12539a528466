-- What new tables mean, for those who begin with them.
use Rattle.std.specs.Prelude.{◌≡◌, ◌↔◌, ◌<◌, ℕ, false, List, [], None, length}
use Rattle.opc_names.specs.declared.class.Class.{Class}
use Rattle.opc_policy_members.specs.Members.{groups_of, user_of}
use Rattle.opc_policy_members.specs.Profiles.{profile_of}
use Rattle.opc_policy_members.specs.Taken.{has_group, is_active}
use Rattle.opc_board.specs.Invariants.{Name, console_at, device_at, reply_at, unit_at}
use Rattle.opc_state.specs.State.{Fits, State, empty}
use Rattle.opc_machine.specs.Imports.{batch_of}

-- In a new state nothing is stored, no class is active, and the day is not halted.
pub record NewStatesAreEmpty : Type 0 where
  pub users : (id : List ℕ) → user_of empty.policy.users id ≡ None
  pub groups : (name : List ℕ) → has_group empty.policy name ≡ false
  pub connects : (user : List ℕ) → groups_of empty.policy.connects user ≡ []
  pub profiles : (class : Class) (pattern : List ℕ) → profile_of empty.policy.profiles class pattern ≡ None
  pub inactive : (class : Class) → is_active empty.policy.active class ≡ false
  pub units : (name : Name) → unit_at empty.board name ≡ None
  pub devices : (number : Name) → device_at empty.board number ≡ None
  pub consoles : (name : Name) → console_at empty.board name ≡ None
  pub replies : (id : ℕ) → reply_at empty.board id ≡ None
  pub answered : empty.board.answered ≡ []
  pub log : empty.board.log ≡ []
  pub messages : empty.board.messages ≡ []
  pub not_halted : empty.board.halted ≡ false
  pub account : empty.account ≡ []
  pub batches : (number : ℕ) → batch_of empty.batches number ≡ None

-- No list has more rows than a table has numbers for, and none is full before.
abbrev pub HasNumbers : State → Type 0
HasNumbers s =
    (length s.account < 9223372036854775808) × (length s.board.answered < 9223372036854775808)
    × (length s.board.log < 9223372036854775808) × (length s.board.messages < 9223372036854775808)

abbrev pub NumbersSuffice : Type 0
NumbersSuffice = (s : State) → Fits s ↔ HasNumbers s

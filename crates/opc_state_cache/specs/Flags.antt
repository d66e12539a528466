-- What is known of the flags of a state.
use Rattle.std.specs.Prelude.{◌≡◌, Bool, true, false, if◌then◌else◌, List, Option, Some, None, IfSome}
use Rattle.std.specs.List.{list_any}
use Rattle.opc_names.specs.declared.class.Class.{Class}
use Rattle.opc_names.specs.declared.class.Class.TheVariants.{Console, Opercmds}
use Rattle.opc_policy_members.specs.Taken.{is_active}
use Rattle.opc_state.specs.declared.change.Edit.{Edit}
use Rattle.opc_state.specs.declared.change.Edit.TheVariants as edit
use Rattle.opc_state.specs.Invariants.{IsKeyed}
use Rattle.opc_state.specs.State.{State}
use Rattle.opc_state_cache.specs.declared.flags.Flags.{Flags}
use Rattle.opc_state_cache.specs.Redefining.{redefines}

abbrev pub unknown : Flags
unknown = record { halted = None; console = None; opercmds = None }

abbrev pub known_active : Flags → Class → Option Bool
known_active flags Console = flags.console
known_active flags Opercmds = flags.opercmds

abbrev pub with_active : Class → Bool → Flags → Flags
with_active Console active flags = record flags { console = Some active }
with_active Opercmds active flags = record flags { opercmds = Some active }

abbrev pub with_halted : Bool → Flags → Flags
with_halted halted flags = record flags { halted = Some halted }

-- Each flag that is known is the state's. A call that loads whether the day is halted also learns that the state is in
-- the order of its keys.
pub record AreFlagsOf (s : State) (flags : Flags) : Type 0 where
  pub halted : IfSome flags.halted (λ halted. (halted ≡ s.board.halted) × IsKeyed s)
  pub active : (class : Class) → IfSome (known_active flags class) (λ active. active ≡ is_active s.policy.active class)

-- the edits that set a flag, or may leave another order of the keys
abbrev pub outdates : Edit → Bool
outdates (edit.SetActive class active) = true
outdates (edit.SetHalted halted) = true
outdates other = redefines other

-- what stays known as these edits are made: all of it, or nothing
abbrev pub known_after : List Edit → Flags → Flags
known_after edits flags = if list_any outdates edits then unknown else flags

-- The profile that decides.
use Rattle.std.specs.Prelude.{ℕ, List, Option, None, if◌then◌else◌}
use Rattle.opc_names.specs.declared.class.Class.{Class}
use Rattle.opc_policy_members.specs.declared.policy.Policy.{Policy}
use Rattle.opc_policy_members.specs.declared.profile.Profile.{Profile}
use Rattle.opc_policy_members.specs.Taken.{is_active}
use Rattle.opc_state.specs.State.{deciding_in}

-- if the class is active and a profile covers the resource
abbrev pub decider : Policy → Class → (resource : List ℕ) → Option Profile
decider p class resource = if is_active p.active class then deciding_in p class resource else None

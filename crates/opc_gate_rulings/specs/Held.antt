-- What is held in the profile that decides, and what it rules.
use Rattle.std.specs.Prelude.{Bool, true, false, List, ℕ, Option, Some, None}
use Rattle.opc_names.specs.declared.level.Level.{Level}
use Rattle.opc_policy_members.specs.Held.{held}
use Rattle.opc_policy_members.specs.Members.{groups_of}
use Rattle.opc_policy.specs.Rulings.{profile_ruling}
use Rattle.opc_policy_members.specs.declared.policy.Policy.{Policy}
use Rattle.opc_policy_members.specs.declared.profile.Profile.{Profile}
use Rattle.opc_policy.specs.declared.ruling.Ruling.{Ruling}
use Rattle.opc_policy_members.specs.declared.user.User.{User}
use Rattle.opc_state.specs.Loads.{access_list}

-- a profile with the access list that the policy has for its class and pattern
abbrev pub with_list : Policy → Profile → Profile
with_list p profile = record profile { entries = access_list p profile.class profile.pattern }

-- the level that a user holds in it at a console
abbrev pub held_in : Policy → Profile → User → List ℕ → Level
held_in p profile user console = held (with_list p profile) user (Some console) (groups_of p.connects user.id)

-- what the profile that decides in a class rules, if the class is active and one decides
abbrev pub class_ruling : Bool → Option Profile → User → Option (List ℕ) → List (List ℕ) → Level → Option Ruling
class_ruling false decided user console groups needed = None
class_ruling true None user console groups needed = None
class_ruling true (Some p) user console groups needed = Some (profile_ruling p user console groups needed)

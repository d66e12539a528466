-- Which level a user holds in each profile that covers a resource.
use Rattle.std.specs.Prelude.{ℕ, List, [], ◌∷◌, ◌++◌, Option, Some, None, Result, Ok, Err, codes, map}
use Rattle.std.specs.List.{flat_map}
use Rattle.opc_names.specs.declared.class.Class.{Class}
use Rattle.opc_names.specs.Spellings.{level_text}
use Rattle.opc_terms.specs.declared.fault.Fault.{Fault}
use Rattle.opc_terms.specs.declared.fault.Fault.TheVariants.{Missing}
use Rattle.opc_policy_members.specs.declared.policy.Policy.{Policy}
use Rattle.opc_policy_members.specs.declared.profile.Profile.{Profile}
use Rattle.opc_policy_members.specs.declared.user.User.{User}
use Rattle.opc_policy_members.specs.Members.{groups_of, user_of}
use Rattle.opc_policy_members.specs.Profiles.{of_class}
use Rattle.opc_policy.specs.Deciding.{covering}
use Rattle.opc_policy_sources.specs.Sources.{held_from}
use Rattle.opc_policy_sources.specs.SourceTexts.{held_source_text}
use Rattle.opc_policy_sources.specs.declared.levels.CoveringLevel.{CoveringLevel}

abbrev pub pattern_of : CoveringLevel → List ℕ
pattern_of level = level.pattern

-- the level that a user with these groups holds in a profile, at a console if one is given
abbrev pub level_in : User → Option (List ℕ) → List (List ℕ) → Profile → CoveringLevel
level_in user console groups p = record { pattern = p.pattern; held = held_from p user console groups }

abbrev pub levels_to : Option User → Policy → Class → List ℕ → List ℕ → Option (List ℕ)
    → Result (List CoveringLevel) Fault
levels_to None policy class resource id console = Err (Missing id)
levels_to (Some user) policy class resource id console = Ok (map
    (level_in user console (groups_of policy.connects id)) (covering resource (of_class class policy.profiles)))

-- for the user with an id: each profile of a class that covers a resource, in order
abbrev pub covering_levels : Policy → Class → List ℕ → List ℕ → Option (List ℕ) → Result (List CoveringLevel) Fault
covering_levels policy class resource id console =
    levels_to (user_of policy.users id) policy class resource id console

-- the line of a profile that covers; 10 is the line feed
abbrev pub level_line : CoveringLevel → List ℕ
level_line level = codes "COVERS " ++ (level.pattern ++ (codes " HELD " ++ (level_text level.held.level
    ++ (codes " BY " ++ (held_source_text level.held ++ 10 ∷ [])))))

abbrev pub levels_text : List CoveringLevel → List ℕ
levels_text levels = flat_map level_line levels

use Rattle.std.proofs.Common.{◌≡◌, map, take, List}
use Rattle.opc_policy_members.specs.declared.profile.Profile.{Profile}
use Rattle.opc_store_schema.specs.Represented.{profile_row}
use Rattle.opc_store_profiles.specs.Lists.{HaveLists}
use Rattle.opc_store_profiles.proofs.lists.whole_in.Given as goal

abbrev pub invariant-loop-row : goal.invariant-loop-row
invariant-loop-row l = (profiles : List Profile) → HaveLists l.entries profiles → l.rows ≡ map profile_row profiles
    → l.profiles.items ≡ take l.row-index profiles

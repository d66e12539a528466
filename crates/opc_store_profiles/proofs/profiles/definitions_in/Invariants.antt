use Rattle.std.proofs.Common.{◌≡◌, map, take, List}
use Rattle.opc_policy_members.specs.declared.profile.Profile.{Profile}
use Rattle.opc_state.specs.Loads.{bare}
use Rattle.opc_store_schema.specs.Represented.{profile_row}
use Rattle.opc_store_profiles.proofs.profiles.definitions_in.Given as goal

abbrev pub invariant-loop-row : goal.invariant-loop-row
invariant-loop-row l = (profiles : List Profile) → l.rows ≡ map profile_row profiles → l.definitions.items ≡ take l.row-index (map bare profiles)

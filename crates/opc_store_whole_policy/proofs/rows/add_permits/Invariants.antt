use Rattle.std.proofs.Common.{◌≡◌, ◌++◌, take}
use Rattle.std.specs.List.{flat_map}
use Rattle.opc_state.specs.PolicyFile.{permits_of}
use Rattle.opc_store_whole_policy.proofs.rows.add_permits.Given as goal

abbrev pub invariant-loop-profile : goal.invariant-loop-profile
invariant-loop-profile l = l.rows.items ≡ l.fn.rows.items ++ flat_map permits_of (take l.profile-index l.profiles)

use Rattle.std.proofs.Common.{◌≡◌, string_bytes, take}
use Rattle.std.specs.List.{flat_map}
use Rattle.opc_policy_folder.specs.StateNames.{stamped}
use Rattle.opc_policy_folder.proofs.name.stamp_of.Given as goal

abbrev pub invariant-loop-character : goal.invariant-loop-character
invariant-loop-character l = string_bytes l.stamp ≡ flat_map stamped (take l.character-index l.time)

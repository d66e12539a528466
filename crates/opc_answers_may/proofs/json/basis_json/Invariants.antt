use Rattle.std.proofs.Common.{◌≡◌, take}
use Rattle.std.specs.Prelude.{string_bytes}
use Rattle.std.specs.List.{flat_map}
use Rattle.opc_answers_may.specs.MayJson.{group_json}
use Rattle.opc_answers_may.proofs.json.basis_json.Given as goal

abbrev pub invariant-loop-group : goal.invariant-loop-group
invariant-loop-group l = string_bytes l.text ≡ flat_map (group_json l.allowed) (take l.group-index l.group-items)

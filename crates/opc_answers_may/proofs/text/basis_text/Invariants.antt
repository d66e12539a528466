use Rattle.std.proofs.Common.{◌≡◌, take}
use Rattle.std.specs.Prelude.{string_bytes}
use Rattle.std.specs.List.{flat_map}
use Rattle.opc_answers_may.specs.MayTexts.{group_text}
use Rattle.opc_answers_may.proofs.text.basis_text.Given as goal

abbrev pub invariant-loop-group : goal.invariant-loop-group
invariant-loop-group l = string_bytes l.text ≡ flat_map (group_text l.allowed) (take l.group-index l.group-items)

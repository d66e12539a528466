use Rattle.std.proofs.Common.{◌≡◌, take}
use Rattle.std.specs.List.{flat_map}
use Rattle.opc_answers_diff.specs.Sections.{changes_about}
use Rattle.opc_answers_diff.proofs.compared.Compared.all_changes.Given as goal

abbrev pub invariant-loop-kind : goal.invariant-loop-kind
invariant-loop-kind l = l.list.items ≡ flat_map (changes_about l.self l.at l.other_at) (take l.kind-index l.kinds)

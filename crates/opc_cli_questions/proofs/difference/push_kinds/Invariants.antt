use Rattle.std.proofs.Common.{◌≡◌, ◌++◌, take}
use Rattle.std.specs.List.{flat_map}
use Rattle.std.specs.Prelude.{string_bytes}
use Rattle.opc_cli_questions.specs.Differences.{AreCounted, kind_listed, kind_shown}
use Rattle.opc_cli_questions.proofs.difference.push_kinds.Given as goal

abbrev pub invariant-loop-kind : goal.invariant-loop-kind
invariant-loop-kind l =
    (string_bytes l.text ≡ string_bytes l.fn.text
    ++ flat_map (kind_shown l.form l.compared l.pair.at l.pair.other_at l.pair.found.items) (take l.kind-index l.kinds))
    × AreCounted (flat_map (kind_listed l.compared l.pair.at l.pair.other_at l.pair.found.items) (take l.kind-index l.kinds))
    l.fn.gains l.gains

use Rattle.std.proofs.Common.{◌≡◌, flat_map, take}
use Rattle.std.specs.Prelude.{string_bytes}
use Rattle.opc_answers_sheet.specs.Commands.{kind_row}
use Rattle.opc_answers_sheet.proofs.commands.kind_rows.Given as goal

abbrev pub invariant-loop-kind : goal.invariant-loop-kind
invariant-loop-kind l =
    string_bytes l.text ≡ flat_map (kind_row l.room.policy l.room.board l.found) (take l.kind-index l.kinds)

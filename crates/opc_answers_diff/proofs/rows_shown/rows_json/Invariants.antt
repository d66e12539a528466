use Rattle.std.proofs.Common.{◌≡◌, take}
use Rattle.std.specs.Prelude.{string_bytes}
use Rattle.std.specs.List.{flat_map}
use Rattle.opc_answers_diff.specs.RowTexts.{change_json}
use Rattle.opc_answers_diff.proofs.rows_shown.rows_json.Given as goal

abbrev pub invariant-loop-change : goal.invariant-loop-change
invariant-loop-change l = string_bytes l.text ≡ flat_map change_json (take l.change-index l.changes)

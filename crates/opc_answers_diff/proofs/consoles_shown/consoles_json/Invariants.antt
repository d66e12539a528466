use Rattle.std.proofs.Common.{◌≡◌, take}
use Rattle.std.specs.Prelude.{string_bytes}
use Rattle.std.specs.List.{flat_map}
use Rattle.opc_answers_diff.specs.ConsolesShown.{console_json}
use Rattle.opc_answers_diff.proofs.consoles_shown.consoles_json.Given as goal

abbrev pub invariant-loop-change : goal.invariant-loop-change
invariant-loop-change l = string_bytes l.text ≡ flat_map console_json (take l.change-index l.changes)

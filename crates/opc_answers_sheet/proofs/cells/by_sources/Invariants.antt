use Rattle.std.proofs.Common.{◌≡◌, flat_map, take}
use Rattle.std.specs.Prelude.{string_bytes}
use Rattle.opc_answers_sheet.specs.Cells.{by_source}
use Rattle.opc_answers_sheet.proofs.cells.by_sources.Given as goal

abbrev pub invariant-loop-source : goal.invariant-loop-source
invariant-loop-source l =
    string_bytes l.text ≡ flat_map (by_source l.console l.warned l.unlisted l.lines) (take l.source-index l.sources)

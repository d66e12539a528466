use Rattle.std.proofs.Common.{◌≡◌, Some, take}
use Rattle.std.specs.List.{All}
use Rattle.opc_import.specs.Lines.{IsFresh, csv_text, written}
use Rattle.opc_import.specs.Rows.{IsValid}
use Rattle.opc_import.proofs.write.lines_of.Given as goal

abbrev pub invariant-loop-row : goal.invariant-loop-row
invariant-loop-row l = IsFresh l.writer × (written l.writer ≡ Some (csv_text (take l.row-index l.rows))) × All IsValid (take l.row-index l.rows)

use Rattle.std.proofs.Common.{◌≡◌, [], take}
use Rattle.std.specs.Prelude.{map}
use Rattle.csv.specs.Records.{fields_of, partial_of}
use Rattle.opc_import.specs.Columns.{column_name, columns}
use Rattle.opc_import.proofs.line.fill_header.Given as goal

abbrev pub invariant-loop-column : goal.invariant-loop-column
invariant-loop-column l =
    (l.column-items ≡ columns) × (partial_of l.line ≡ []) × (fields_of l.line ≡ map column_name (take l.column-index l.column-items))

use Rattle.std.proofs.Common.{◌≡◌, ◌≤◌, ◌+◌, ◌++◌, drop, length, map, take}
use Rattle.opc_import.specs.CsvBytes.{state_of}
use Rattle.opc_check.specs.RowLines.{line_after, record_lines, texts_before}
use Rattle.opc_check.proofs.row_lines.record_lines.Given as goal

abbrev pub invariant-loop-byte : goal.invariant-loop-byte
invariant-loop-byte l = record {
  so_far : record_lines l.text ≡ l.lines.items
      ++ map line_after (texts_before (state_of l.place) (take l.byte-index l.text) (drop l.byte-index l.text));
  line : l.line ≡ line_after (take l.byte-index l.text);
  low : l.line ≤ l.byte-index + 1;
  few : length l.lines.items ≤ 10002;
}

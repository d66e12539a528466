use Rattle.std.proofs.Common.{◌≡◌, take}
use Rattle.std.specs.Io.KnownBytes.{Appends}
use Rattle.opc_cli_program.specs.Imports.{lines_text}
use Rattle.opc_cli_program.proofs.printing.write_lines.Given as goal

abbrev pub invariant-loop-line : goal.invariant-loop-line
invariant-loop-line g l =
    Appends (g.K.Sink.held l.fn.output) (g.K.Sink.held l.output) (lines_text (take l.line-index l.lines))
    × (g.K.Sink.has_failed l.output ≡ g.K.Sink.has_failed l.fn.output)

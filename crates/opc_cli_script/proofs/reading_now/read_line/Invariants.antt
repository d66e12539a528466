use Rattle.opc_cli_script.proofs.Typing.{AreRead}
use Rattle.opc_cli_script.proofs.reading_now.read_line.Given as goal

abbrev pub invariant-loop : goal.invariant-loop
invariant-loop g l = AreRead (g.R.Read.remaining l.fn.input) (g.R.Read.remaining l.input) l.bytes.items

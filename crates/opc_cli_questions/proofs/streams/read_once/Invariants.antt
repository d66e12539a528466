use Rattle.std.specs.Io.KnownBytes.{Keeps}
use Rattle.opc_cli_questions.proofs.streams.read_once.Given as goal

abbrev pub invariant-loop : goal.invariant-loop
invariant-loop g l = Keeps (g.R.Read.remaining l.fn.input) (g.R.Read.remaining l.input)

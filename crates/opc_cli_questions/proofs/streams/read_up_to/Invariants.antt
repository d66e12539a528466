use Rattle.std.proofs.Common.{◌≤◌, ◌-◌, vec_len}
use Rattle.std.specs.Io.KnownBytes.{Consumes}
use Rattle.opc_cli_questions.proofs.streams.read_up_to.Given as goal

abbrev pub invariant-loop-input : goal.invariant-loop-input
invariant-loop-input g l = (vec_len l.bytes ≤ l.most) × Consumes (g.R.Read.remaining l.fn.input) (g.R.Read.remaining l.input) l.bytes.items

abbrev pub decreases-loop-input : goal.decreases-loop-input
decreases-loop-input g l = l.most - vec_len l.bytes

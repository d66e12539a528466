use Rattle.std.proofs.Common.{◌≡◌, [], take}
use Rattle.opc_answers.specs.Made.{connects_after}
use Rattle.opc_answers.proofs.members.connects_made.Given as goal

abbrev pub invariant-loop-row : goal.invariant-loop-row
invariant-loop-row l = l.connects.keys ≡ connects_after (take l.row-index l.rows) []

use Rattle.std.proofs.Common.{◌≡◌, take}
use Rattle.opc_machine.specs.Bootstrap.{consoles_after}
use Rattle.opc_gate_imports.proofs.bootstrap.define_all.Given as goal

abbrev pub invariant-loop-row : goal.invariant-loop-row
invariant-loop-row l = consoles_after (take l.row-index l.rows) l.fn.board ≡ l.board

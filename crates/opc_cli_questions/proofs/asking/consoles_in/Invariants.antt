use Rattle.std.proofs.Common.{◌≡◌, map, take}
use Rattle.opc_cli_questions.specs.Asking.{consoles_in}
use Rattle.opc_cli_questions.proofs.asking.consoles_in.Given as goal

abbrev pub invariant-loop-row : goal.invariant-loop-row
invariant-loop-row l = map (λ name. name.now) l.names.items ≡ consoles_in (take l.row-index l.rows)

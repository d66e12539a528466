use Rattle.std.proofs.Common.{◌≡◌, map, take}
use Rattle.opc_cli_questions.specs.Asking.{users_in}
use Rattle.opc_cli_questions.proofs.asking.users_in.Given as goal

abbrev pub invariant-loop-row : goal.invariant-loop-row
invariant-loop-row l = map (λ name. name.now) l.names.items ≡ users_in (take l.row-index l.rows)

use Rattle.std.proofs.Common.{[], None, Some, arith, rules}
use Rattle.opc_cli_questions.specs.Asking.{console_in}
use Rattle.opc_cli_questions.proofs.Named.{more_names}
use Rattle.opc_cli_questions.proofs.asking.consoles_in.Goals.{in-Some+in_ok-push, in_default}
use Rattle.opc_cli_questions.proofs.asking.consoles_in.Goals as goal

pub loop-row-preserved : goal.loop-row-preserved
loop-row-preserved c =
    let next = more_names console_in (λ name. name.now) c.args.rows.now c.loop-row.row-index c.row-item.result
    c.console_in.result c.loop-row.names.items (omega arith) c.row-item.is c.console_in.ensures c.loop-row.invariant in
    elim c.match-console_in.branch [
      | in-Some+in_ok-push w ↦ search (rules, next)
      | in_default w ↦ search (rules, next)
    ]

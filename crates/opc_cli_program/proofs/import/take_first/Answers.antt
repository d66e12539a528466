use Rattle.opc_cli_program.proofs.Kept.{not_first}
use Rattle.opc_cli_program.proofs.import.take_first.Goals as goal

pub returns-in-Err-clause-sure : goal.returns-in-Err-clause-sure
returns-in-Err-clause-sure g c = λ sure. c.bootstrap.ensures.sure (c.not_taken.ensures.kept.sure sure)

pub returns-in-Err-clause-takes : goal.returns-in-Err-clause-takes
returns-in-Err-clause-takes g c =
    not_first g.T.Tables.meaning c.args.gate.now c.bootstrap.new.self c.not_taken.new.gate c.not_taken.ensures.kept
    c.args.rows.now c.in-Err.fault c.not_taken.result c.not_taken.ensures.fault c.in-Err.ensures.refused
    c.in-Err.ensures.unchanged c.bootstrap.ensures.crash c.bootstrap.ensures.idle

use Rattle.opc_cli.proofs.Done.{same_fault}
use Rattle.opc_cli.proofs.ended.Goals as goal

pub returns-clause-reported : goal.returns-clause-reported
returns-clause-reported g c =
    let second = same_fault g.E.Write.contents c.reported-status.new.errors c.reported.new.errors _ _ c.not_closed.ensures c.reported.ensures.reported in
    rw (c.in-Err.is) (c.reported-status.new.errors, c.reported-status.ensures.reported, c.reported.ensures.kept, second)

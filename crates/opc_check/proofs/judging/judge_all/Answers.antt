use Rattle.opc_check.proofs.judging.judge_all.Goals as goal

pub returns : goal.returns
returns c = rw c.in_ok-each.ensures at c.judge_below.ensures

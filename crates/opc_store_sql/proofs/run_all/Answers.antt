use Rattle.std.proofs.Common.{◌∙◌, map, subst, arith}
use Rattle.std.proofs.lemmas.List.{take_all}
use Rattle.sqlite.specs.declared.error.Error.{Error}
use Rattle.opc_store_sql.specs.Steps.{RanAll}
use Rattle.opc_store_sql.proofs.StepsInOrder.{stays_then, stays_for, ran_more}
use Rattle.opc_store_sql.proofs.run_all.Goals as goal

pub loop-statement-preserved : goal.loop-statement-preserved
loop-statement-preserved g c =
    let was = c.loop-statement.invariant in
    let now = c.in_ok-run.ensures in (
      now.same_reference ∙ was.0,
      stays_then g.S.Store _ _ Error Error tt tt _ c.loop-statement.tx.conn.now c.run.new.tx.conn.now was.1 (stays_for g.S.Store _ _ Error _ tt _ _ now.stays),
      λ clean. ran_more g.S.Store (λ s. s.now) c.args.statements.now c.loop-statement.statement-index _ _ _ _ _
          (omega arith) (was.2 (omega (arith, now.stays.survives.clean))) (now.ran clean),
    )

pub returns-clause-ran : goal.returns-clause-ran
returns-clause-ran g c clean =
    let all = take_all c.loop-statement.statement-index c.args.statements.now (omega arith) in
    subst (λ l. RanAll g.S.Store (map (λ s. s.now) l) c.args.tx.now.conn.now c.loop-statement.tx.conn.now) all (c.loop-statement.invariant.2 clean)

use Rattle.std.proofs.Common.{◌∙◌, ap, arith, sym}
use Rattle.opc_http_connections.specs.declared.timed.Timed.{Timed}
use Rattle.opc_http_connections.proofs.Tries.{read_again, tried, tried_again, tried_to_the_end}
use Rattle.opc_http_connections.proofs.timed.Timed.read_on.Goals as goal

pub loop-again-preserved : goal.loop-again-preserved
loop-again-preserved g c =
    let was = c.loop-again.invariant in
    let now = c.try_read-answer-in-loop-again in
    let signal = sym c.is_interrupted.ensures ∙ c.if-not-is_interrupted.false in (
      tried_again _ _ _ _ _ _ _ _ _ _ _ _ _ (ap (λ (t : Timed _ _). t.timer.now) was.1)
          (ap (λ (t : Timed _ _). t.deadline) was.1) was.0 signal now.ensures.tried,
      now.ensures.same ∙ ap (λ (t : Timed _ _). record t { handle = now.new.self.handle }) was.1,
      now.ensures.bound,
      read_again _ _ _ _ _ _ _ was.3 signal now.ensures.bytes,
    )

pub returns-then-not-is_interrupted-clause-tried : goal.returns-then-not-is_interrupted-clause-tried
returns-then-not-is_interrupted-clause-tried g c =
    tried _ _ _ _ _ _ _ _ _ c.loop-again.invariant.0 (sym c.is_interrupted.ensures ∙ c.if-not-is_interrupted.true)

pub returns-clause-tried : goal.returns-clause-tried
returns-clause-tried g c = tried_to_the_end _ _ _ _ _ _ _ _ _ c.loop-again.invariant.0 (omega (arith, c.loop-again-test.false, c.loop-again.auto._again-end))

use Rattle.std.proofs.Common.{arith, rules}
use Rattle.opc_gate.proofs.Running.{run_none, sure_more}
use Rattle.opc_gate.proofs.gate.Gate.run.Goals as goal

pub loop-request-init : goal.loop-request-init
loop-request-init g c =
    record {
      sure = λ sure. sure;
      room = omega (arith, c.in_ok-answers.ensures.capacity);
      counted = search rules;
      each = search rules;
      run = λ sure s represented. rw c.in_ok-answers.ensures.items (run_none g.T.Tables.meaning _ s represented);
    }

pub loop-request-preserved : goal.loop-request-preserved
loop-request-preserved g c =
    let was = c.loop-request.invariant in
    let handled = c.handle.ensures in
    record {
      sure = λ sure. was.sure (handled.sure sure);
      room = omega arith;
      counted = omega arith;
      each = search rules;
      run = rw c.push_reserved.ensures.items
          (sure_more g.T.Tables.meaning c.args.requests.now
          c.loop-request.request-index c.request-item.result _ _ _ _ c.handle.result (omega arith) c.request-item.is
          was.run (handled.sure, handled.handled));
    }

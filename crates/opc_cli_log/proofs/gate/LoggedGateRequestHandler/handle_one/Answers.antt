use Rattle.opc_machine.specs.Inputs.{input_of}
use Rattle.opc_cli_log.proofs.Accounted.{accounted, handled}
use Rattle.opc_cli_log.proofs.gate.LoggedGateRequestHandler.handle_one.Goals as goal

pub returns-clause-sure : goal.returns-clause-sure
returns-clause-sure g c = λ sure. c.acting_user-user.ensures.kept.sure (c.handle-answer.ensures.sure (c.row_of-row.ensures.kept.sure sure))

pub returns-clause-handled : goal.returns-clause-handled
returns-clause-handled g c = λ sure s represented.
    let before = c.acting_user-user.ensures.kept in
    let after = c.row_of-row.ensures.kept in
    let answered = after.sure sure in
    let met = before.same (c.handle-answer.ensures.sure answered) s represented in
    let one = handled g.T.Tables.meaning _ _ _ _ before after sure s c.args.moment (input_of c.args.request.now) c.handle-answer.result
    (c.handle-answer.ensures.handled answered s met) in
    record {
      next = one.next;
      step = one.step;
      represented = one.represented;
      crash = one.crash;
      idle = one.idle;
      acknowledged = one.acknowledged;
    }

pub returns-clause-more : goal.returns-clause-more
returns-clause-more g c =
    let before = c.acting_user-user.ensures in
    let after = c.row_of-row.ensures in
    record {
      user = c.acting_user-user.result;
      row = c.row_of-row.result;
      sure = λ sure. before.kept.sure (c.handle-answer.ensures.sure (after.kept.sure sure));
      handled = λ sure s represented.
          let answered = after.kept.sure sure in
          let loaded = c.handle-answer.ensures.sure answered in
          let first = c.handle-answer.ensures.handled answered s (before.kept.same loaded s represented) in
          accounted g.T.Tables.meaning _ _ _ _ before.kept after.kept sure s _ first (record {
            acts = before.answers loaded s represented;
            numbered = after.answers sure first.next first.represented;
          });
      added = c.add.ensures;
    }

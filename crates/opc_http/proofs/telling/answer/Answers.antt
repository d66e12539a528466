use Rattle.std.proofs.Common.{◌∙◌}
use Rattle.opc_machine.specs.Inputs.{input_of}
use Rattle.opc_http.proofs.Loaded.{handled_after, handled_before}
use Rattle.opc_http.proofs.Numbered.{number_told}
use Rattle.opc_http.proofs.telling.answer.Goals as goal

pub returns-clause-sure : goal.returns-clause-sure
returns-clause-sure g c = λ sure.
    c.acting_user-user.ensures.kept.sure (c.handle-answer.ensures.sure
    (c.row_of-row.ensures.kept.sure (c.follow-policy.ensures.kept.sure sure)))

pub returns-clause-handled : goal.returns-clause-handled
returns-clause-handled g c = λ sure s represented.
    let m = g.T.Tables.meaning in
    let loaded = c.acting_user-user.ensures in
    let counted = c.row_of-row.ensures in
    let followed = c.follow-policy.ensures.kept in
    let answered = counted.kept.sure (followed.sure sure) in
    handled_before m _ _ _ followed sure s c.args.moment (input_of c.args.request.now) c.handle-answer.result
    (handled_before m _ _ _ counted.kept (followed.sure sure) s c.args.moment (input_of c.args.request.now) c.handle-answer.result
    (handled_after m _ _ _ loaded.kept s c.args.moment (input_of c.args.request.now) c.handle-answer.result
    (c.handle-answer.ensures.handled answered s (loaded.kept.same (c.handle-answer.ensures.sure answered) s represented))))

pub returns-clause-user : goal.returns-clause-user
returns-clause-user g c = λ told sure s represented.
    c.acting_user-user.ensures.user (c.is_told-is_told.ensures ∙ told)
    (c.handle-answer.ensures.sure (c.row_of-row.ensures.kept.sure (c.follow-policy.ensures.kept.sure sure))) s represented

pub returns-clause-row : goal.returns-clause-row
returns-clause-row g c = λ told sure s represented.
    let m = g.T.Tables.meaning in
    let counted = c.row_of-row.ensures in
    let followed = c.follow-policy.ensures.kept in
    let mid = followed.sure sure in
    let answered = counted.kept.sure mid in
    let handled = c.handle-answer.ensures.handled answered s
    (c.acting_user-user.ensures.kept.same (c.handle-answer.ensures.sure answered) s represented) in
    number_told s handled.next c.args.moment (input_of c.args.request.now) c.handle-answer.result m _
    (followed.same sure handled.next (counted.kept.same mid handled.next handled.represented)) handled.step c.row_of-row.result
    (rw (c.is_told-is_told.ensures ∙ told) at counted.answers mid handled.next handled.represented)

pub returns-clause-followed : goal.returns-clause-followed
returns-clause-followed g c = λ sure s represented.
    let counted = c.row_of-row.ensures in
    let followed = c.follow-policy.ensures.kept in
    let mid = followed.sure sure in
    let answered = counted.kept.sure mid in
    let handled = c.handle-answer.ensures.handled answered s
    (c.acting_user-user.ensures.kept.same (c.handle-answer.ensures.sure answered) s represented) in
    let there = counted.kept.same mid handled.next handled.represented in
    record {
      next = handled.next;
      step = handled.step;
      represented = followed.same sure handled.next there;
      followed = c.follow-policy.ensures.follows sure handled.next there;
    }

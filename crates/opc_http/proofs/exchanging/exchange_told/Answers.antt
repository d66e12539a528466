use Rattle.std.proofs.Common.{Ok, Err, inl, inr, refl, subst, sym, ◌∙◌}
use Rattle.opc_http_requests.specs.Faults.{IfRefused}
use Rattle.opc_http.specs.Exchange.{IsAsked}
use Rattle.opc_http.proofs.Replies.{entry_told, faulty, not_read, only_failed, refused_read, served, told_if, written}
use Rattle.opc_http.proofs.exchanging.exchange_told.Goals as goal

pub returns-in-Ok-clause-served : goal.returns-in-Ok-clause-served
returns-in-Ok-clause-served g c =
    rw c.told_answer.ensures.served
    (served c.args.routes.now _ _ _ _ _ _ _ _ (Ok c.answer-answered.result.answer) (record {
      request = c.in-Ok.request;
      asked = c.in-Ok.ensures.asked;
      handled = c.answer-answered.ensures.handled;
    }) c.send_answer-served.result c.send_answer-served.ensures.reported)

pub returns-in-Ok-clause-fault : goal.returns-in-Ok-clause-fault
returns-in-Ok-clause-fault g c =
    rw c.told_answer.ensures.served
    (faulty c.args.routes.now _ _ _ _ _ _ _ _ (Ok c.answer-answered.result.answer) (record {
      request = c.in-Ok.request;
      asked = c.in-Ok.ensures.asked;
      handled = c.answer-answered.ensures.handled;
    }) c.send_answer-served.result c.send_answer-served.ensures.cut_off)

pub returns-in-Ok-clause-read : goal.returns-in-Ok-clause-read
returns-in-Ok-clause-read g c =
    rw (
      c.told_answer.ensures.served,
      not_read g.K.Sink.held (Ok c.answer-answered.result.answer) _ _ c.send_answer-served.result
          c.send_answer-served.ensures.cut_off,
    )
    (c.in-Ok.ensures.failed ∙ c.requires.reader)

pub returns-in-Ok-clause-write : goal.returns-in-Ok-clause-write
returns-in-Ok-clause-write g c =
    rw c.told_answer.ensures.served (only_failed _ _ _ c.requires.writer c.send_answer-served.ensures.write)

pub returns-in-Ok-clause-entry : goal.returns-in-Ok-clause-entry
returns-in-Ok-clause-entry g c = rw c.told_answer.ensures.entry (told_if c.is_told-is_told.result _ ∙ c.is_told-is_told.ensures)

pub returns-in-Ok-clause-told : goal.returns-in-Ok-clause-told
returns-in-Ok-clause-told g c =
    rw (c.told_answer.ensures.entry, c.told_answer.ensures.served) (entry_told _ c.is_told-is_told.result _ (λ told. record {
      at = refl;
      status = refl;
      told = record {
        asked = c.in-Ok.ensures.asked;
        handled = c.answer-answered.ensures.handled;
        acts = c.answer-answered.ensures.user (sym c.is_told-is_told.ensures ∙ told);
        numbered = c.answer-answered.ensures.row (sym c.is_told-is_told.ensures ∙ told);
        written = written g.K.Sink.held (Ok c.answer-answered.result.answer) _ _ c.send_answer-served.result
            c.send_answer-served.ensures.reported c.send_answer-served.ensures.cut_off;
      };
    }))

pub returns-in-Ok-clause-trailed : goal.returns-in-Ok-clause-trailed
returns-in-Ok-clause-trailed g c =
    rw (c.told_answer.ensures.entry, c.told_answer.ensures.served) (inr (record {
      request = c.in-Ok.request;
      answer = c.answer-answered.result.answer;
      kept = c.answer-answered.result.policy;
      asked = c.in-Ok.ensures.asked;
      followed = c.answer-answered.ensures.followed;
      stayed = c.answer-answered.ensures.stays;
      written = written g.K.Sink.held (Ok c.answer-answered.result.answer) _ _ c.send_answer-served.result
          c.send_answer-served.ensures.reported c.send_answer-served.ensures.cut_off;
      told = entry_told _ c.is_told-is_told.result _ (λ told. refl);
    }))

pub returns-in-Err-Refused-clause-served : goal.returns-in-Err-Refused-clause-served
returns-in-Err-Refused-clause-served g c =
    rw c.told.ensures.served
    (served c.args.routes.now _ _ _ _ _ _ _ _ (Err c.in-Err-Refused.refusal) (
      subst (λ fault. IfRefused fault (λ why. IsAsked c.args.routes.now (g.S.Source.left c.args.source.now) (Err why)))
          c.in-Err-Refused.field-0-is c.in-Err-Refused.ensures.refused,
      refl,
    ) c.send_refusal-served.result
    c.send_refusal-served.ensures.reported)

pub returns-in-Err-Refused-clause-fault : goal.returns-in-Err-Refused-clause-fault
returns-in-Err-Refused-clause-fault g c =
    rw c.told.ensures.served
    (faulty c.args.routes.now _ _ _ _ _ _ _ _ (Err c.in-Err-Refused.refusal) (
      subst (λ fault. IfRefused fault (λ why. IsAsked c.args.routes.now (g.S.Source.left c.args.source.now) (Err why)))
          c.in-Err-Refused.field-0-is c.in-Err-Refused.ensures.refused,
      refl,
    ) c.send_refusal-served.result
    c.send_refusal-served.ensures.cut_off)

pub returns-in-Err-Refused-clause-read : goal.returns-in-Err-Refused-clause-read
returns-in-Err-Refused-clause-read g c =
    rw (
      c.told.ensures.served,
      not_read g.K.Sink.held (Err c.in-Err-Refused.refusal) _ _
          c.send_refusal-served.result c.send_refusal-served.ensures.cut_off,
    )
    (refused_read c.in-Err-Refused.field-0 c.in-Err-Refused.refusal c.in-Err-Refused.field-0-is _ _ c.in-Err-Refused.ensures.failed
    ∙ c.requires.reader)

pub returns-in-Err-Refused-clause-write : goal.returns-in-Err-Refused-clause-write
returns-in-Err-Refused-clause-write g c =
    rw c.told.ensures.served (only_failed _ _ _ c.requires.writer c.send_refusal-served.ensures.write)

pub returns-in-Err-Refused-clause-entry : goal.returns-in-Err-Refused-clause-entry
returns-in-Err-Refused-clause-entry g c = rw c.told.ensures.entry (told_if c.is_told-is_told.result _ ∙ c.is_told-is_told.ensures)

pub returns-in-Err-Refused-clause-told : goal.returns-in-Err-Refused-clause-told
returns-in-Err-Refused-clause-told g c =
    rw (c.told.ensures.entry, c.told.ensures.served) (entry_told _ c.is_told-is_told.result _ (λ told. record {
      at = refl;
      status = refl;
      told = record {
        asked = subst (λ fault. IfRefused fault (λ why. IsAsked c.args.routes.now (g.S.Source.left c.args.source.now) (Err why)))
            c.in-Err-Refused.field-0-is c.in-Err-Refused.ensures.refused;
        same = refl;
        nobody = refl;
        rowless = refl;
        written = written g.K.Sink.held (Err c.in-Err-Refused.refusal) _ _ c.send_refusal-served.result
            c.send_refusal-served.ensures.reported c.send_refusal-served.ensures.cut_off;
      };
    }))

pub returns-in-Err-Refused-clause-trailed : goal.returns-in-Err-Refused-clause-trailed
returns-in-Err-Refused-clause-trailed g c =
    rw c.told.ensures.entry (inl (record {
      same = refl;
      unmoved = refl;
      nothing = entry_told _ c.is_told-is_told.result _ (λ told. refl);
    }))

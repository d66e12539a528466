use Rattle.std.proofs.Common.{◌≡◌, ◌∙◌, ◌≤◌, ◌++◌, ℕ, List, Ok, Err, arith, drop, length, subst, sym, vec_len}
use Rattle.std.specs.Prelude.{IfSome}
use Rattle.std.proofs.lemmas.Result.{IfOk-weaker}
use Rattle.opc_http_requests.specs.Head.{FoundHead, NoHead}
use Rattle.opc_http_requests.proofs.MadeReads.{body-only, looked-only, stops}
use Rattle.opc_http_requests.proofs.Requester.{none-found, some-found, takes-whole}
use Rattle.opc_http_questions.specs.QuestionPlans.{plan_in}
use Rattle.opc_http_questions.specs.Questions.{PutsOnly, planned, question_length}
use Rattle.opc_http_questions.specs.RequestIds.{id_in}
use Rattle.opc_http_questions.proofs.Putting.{planned-length, puts-headless, puts-planned, puts-refused}
use Rattle.opc_http_questions.proofs.ask.read_question.Goals as goal

pub returns-in_err-spans-clause-reads : goal.returns-in_err-spans-clause-reads
returns-in_err-spans-clause-reads g c =
    looked-only (question_length c.args.origins) g.S.Source.left g.S.Source.gives _ _ _ _ c.read_head.ensures.reads

pub returns-in_err-spans-clause-stops : goal.returns-in_err-spans-clause-stops
returns-in_err-spans-clause-stops g c =
    stops (question_length c.args.origins) g.S.Source.left g.S.Source.gives _ _ (returns-in_err-spans-clause-reads g c)

pub returns-in_default-clause-asked : goal.returns-in_default-clause-asked
returns-in_default-clause-asked g c =
    let known = g.S.Source.left c.args.source.now in
    puts-headless c.args.origins known (none-found known c.in_ok-spans.field-0 NoHead
    (λ all. FoundHead all c.read_head.new.buf.items c.read_head.new.headers) c.in_default.not-Some
    c.in_ok-spans.ensures.head)

pub returns-in_default-clause-reads : goal.returns-in_default-clause-reads
returns-in_default-clause-reads g c =
    looked-only (question_length c.args.origins) g.S.Source.left g.S.Source.gives _ _ _ _ c.in_ok-spans.ensures.reads

pub returns-in_default-clause-stops : goal.returns-in_default-clause-stops
returns-in_default-clause-stops g c =
    stops (question_length c.args.origins) g.S.Source.left g.S.Source.gives _ _ (returns-in_default-clause-reads g c)

pub returns-in_err-id-clause-reads : goal.returns-in_err-id-clause-reads
returns-in_err-id-clause-reads g c =
    looked-only (question_length c.args.origins) g.S.Source.left g.S.Source.gives _ _ _ _ c.in_ok-spans.ensures.reads

pub returns-in_err-id-clause-stops : goal.returns-in_err-id-clause-stops
returns-in_err-id-clause-stops g c =
    stops (question_length c.args.origins) g.S.Source.left g.S.Source.gives _ _ (returns-in_err-id-clause-reads g c)

pub returns-in-Err-clause-asked : goal.returns-in-Err-clause-asked
returns-in-Err-clause-asked g c =
    let known = g.S.Source.left c.args.source.now in
    let buf = c.read_head.new.buf.items in
    let headers = c.read_head.new.headers in
    let spans = c.in-Some.spans in
    let head = some-found known c.in_ok-spans.field-0 spans NoHead (λ all. FoundHead all buf headers) c.in-Some.is c.in_ok-spans.ensures.head in
    let id = subst (λ (t : List ℕ). c.in_ok-id.id ≡ id_in t headers spans) c.as_slice.ensures.value c.in_ok-id.ensures.id in
    let plan = subst (λ (t : List ℕ). plan_in c.args.origins t headers spans ≡ Err c.in-Err.refusal) c.as_slice-2.ensures.value
    (sym c.in-Err.ensures.plan) in
    puts-refused c.args.origins known buf headers spans c.in_ok-id.id c.in-Err.refusal head id plan

pub returns-in-Err-clause-reads : goal.returns-in-Err-clause-reads
returns-in-Err-clause-reads g c =
    looked-only (question_length c.args.origins) g.S.Source.left g.S.Source.gives _ _ _ _ c.in_ok-spans.ensures.reads

pub returns-in-Err-clause-stops : goal.returns-in-Err-clause-stops
returns-in-Err-clause-stops g c =
    stops (question_length c.args.origins) g.S.Source.left g.S.Source.gives _ _ (returns-in-Err-clause-reads g c)

pub returns-clause-asked : goal.returns-clause-asked
returns-clause-asked g c =
    let known = g.S.Source.left c.args.source.now in
    let mid = g.S.Source.left c.read_head.new.source in
    let buf = c.read_head.new.buf.items in
    let headers = c.read_head.new.headers in
    let spans = c.in-Some.spans in
    let head = some-found known c.in_ok-spans.field-0 spans NoHead (λ all. FoundHead all buf headers) c.in-Some.is c.in_ok-spans.ensures.head in
    let id = subst (λ (t : List ℕ). c.in_ok-id.id ≡ id_in t headers spans) c.as_slice.ensures.value c.in_ok-id.ensures.id in
    let plan = subst (λ (t : List ℕ). plan_in c.args.origins t headers spans ≡ Ok c.in-Ok.plan) c.as_slice-2.ensures.value
    (sym c.in-Ok.ensures.plan) in
    IfOk-weaker c.read_planned.result
    (λ request. (request.id ≡ c.in_ok-id.id)
    × IfSome mid (λ left. planned (drop spans.len (buf ++ left)) c.in-Ok.plan ≡ request.question))
    (λ request. IfSome known (λ all. PutsOnly c.args.origins all request))
    (λ request done. puts-planned c.args.origins known mid buf headers spans c.in-Ok.plan request.id request.question
    c.in_ok-spans.ensures.taken head (done.0 ∙ id) plan done.1) c.read_planned.ensures.asked

pub returns-clause-reads : goal.returns-clause-reads
returns-clause-reads g c =
    let left = g.S.Source.left in
    let gives = g.S.Source.gives in
    let buf = c.read_head.new.buf.items in
    let headers = c.read_head.new.headers in
    let spans = c.in-Some.spans in
    let looked = c.in_ok-spans.ensures.reads in
    let found = rw c.in-Some.is at c.in_ok-spans.ensures.found in
    let plan = subst (λ (t : List ℕ). plan_in c.args.origins t headers spans ≡ Ok c.in-Ok.plan) c.as_slice-2.ensures.value
    (sym c.in-Ok.ensures.plan) in
    let long = planned-length c.args.origins buf headers spans c.in-Ok.plan found plan in
    body-only (question_length c.args.origins) left gives c.args.source.now c.read_head.new.source c.read_planned.new.source buf
    looked.bytes headers spans c.in-Ok.plan.length looked.reads looked.buffer found long c.read_planned.ensures.reads

pub returns-clause-stops : goal.returns-clause-stops
returns-clause-stops g c =
    stops (question_length c.args.origins) g.S.Source.left g.S.Source.gives c.args.source.now c.read_planned.new.source (returns-clause-reads g c)

pub returns-clause-most : goal.returns-clause-most
returns-clause-most g c =
    let known = g.S.Source.left c.args.source.now in
    let mid = g.S.Source.left c.read_head.new.source in
    let after = g.S.Source.left c.read_planned.new.source in
    let buf = c.read_head.new.buf.items in
    let spans = c.in-Some.spans in
    let within = rw c.in-Some.is at c.in_ok-spans.ensures.within in
    let is : length buf ≡ vec_len c.read_head.new.buf = omega (arith, c.read_head.new.buf.ok.0) in
    let short : spans.len ≤ 8192 = omega (arith, within.section.len_fits, is, c.in_ok-spans.ensures.few) in
    takes-whole spans.len c.in-Ok.plan.length (vec_len c.read_head.new.buf) known mid after buf
    c.in_ok-spans.ensures.taken is c.in_ok-spans.ensures.few short c.in-Ok.ensures.few
    c.read_planned.ensures.most

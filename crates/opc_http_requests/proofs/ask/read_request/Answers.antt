use Rattle.std.proofs.Common.{◌≡◌, ◌≤◌, ◌++◌, ℕ, List, Ok, Err, arith, drop, length, subst, sym, vec_len}
use Rattle.std.specs.Prelude.{IfSome}
use Rattle.std.proofs.lemmas.Result.{IfOk-weaker, err_from_is_err_and}
use Rattle.httparse.specs.Spans.{span_bytes}
use Rattle.opc_http_requests.specs.Head.{FoundHead, NoHead}
use Rattle.opc_http_requests.specs.Asked.{AsksOnly, body_length_of}
use Rattle.opc_http_requests.specs.Plans.{plan_in}
use Rattle.opc_http_requests.specs.Requests.{planned}
use Rattle.opc_http_requests.proofs.Requester.{asks-headless, asks-planned, asks-refused, fault-weaker, none-found, planned-length, some-found, takes-whole}
use Rattle.opc_http_requests.proofs.MadeReads.{body-only, looked-only, stops}
use Rattle.opc_http_requests.proofs.ask.read_request.Goals as goal

pub returns-in_default-clause-refused : goal.returns-in_default-clause-refused
returns-in_default-clause-refused g c =
    let known = g.S.Source.left c.args.source.now in
    asks-headless c.args.routes.now known (none-found known c.in_ok-spans.field-0 NoHead
    (λ all. FoundHead all c.read_head.new.buf.items c.read_head.new.headers) c.in_default.not-Some
    c.in_ok-spans.ensures.head)

pub returns-in_err-plan-clause-refused : goal.returns-in_err-plan-clause-refused
returns-in_err-plan-clause-refused g c =
    let known = g.S.Source.left c.args.source.now in
    let buf = c.read_head.new.buf.items in
    let headers = c.read_head.new.headers in
    let spans = c.in-Some.spans in
    let head = some-found known c.in_ok-spans.field-0 spans NoHead (λ all. FoundHead all buf headers) c.in-Some.is c.in_ok-spans.ensures.head in
    let plan = subst (λ (t : List ℕ). plan_in c.args.routes.now t headers spans ≡ Err c.in_err-plan.field-0.0) c.as_slice.ensures.value
    (sym c.in_err-plan.ensures.plan) in
    let err = err_from_is_err_and c.from_residual-in_err-plan.result c.from_residual-in_err-plan.ensures.1 in
    rw (err.1, err.2) (asks-refused c.args.routes.now known buf headers spans c.in_err-plan.field-0.0 head plan)

pub returns-clause-asked : goal.returns-clause-asked
returns-clause-asked g c =
    let known = g.S.Source.left c.args.source.now in
    let mid = g.S.Source.left c.read_head.new.source in
    let buf = c.read_head.new.buf.items in
    let headers = c.read_head.new.headers in
    let spans = c.in-Some.spans in
    let head = some-found known c.in_ok-spans.field-0 spans NoHead (λ all. FoundHead all buf headers) c.in-Some.is c.in_ok-spans.ensures.head in
    let plan = subst (λ (t : List ℕ). plan_in c.args.routes.now t headers spans ≡ Ok c.in_ok-plan.plan) c.as_slice.ensures.value
    (sym c.in_ok-plan.ensures.plan) in
    IfOk-weaker c.read_planned.result
    (λ request. IfSome mid (λ left. planned (span_bytes buf spans.path) (drop spans.len (buf ++ left)) c.in_ok-plan.plan ≡ Ok request))
    (λ request. IfSome known (λ all. AsksOnly c.args.routes.now all (Ok request)))
    (λ request done. asks-planned c.args.routes.now known mid buf headers spans c.in_ok-plan.plan (Ok request) c.in_ok-spans.ensures.taken
    head plan done) c.read_planned.ensures.asked

pub returns-clause-refused : goal.returns-clause-refused
returns-clause-refused g c =
    let known = g.S.Source.left c.args.source.now in
    let mid = g.S.Source.left c.read_head.new.source in
    let buf = c.read_head.new.buf.items in
    let headers = c.read_head.new.headers in
    let spans = c.in-Some.spans in
    let head = some-found known c.in_ok-spans.field-0 spans NoHead (λ all. FoundHead all buf headers) c.in-Some.is c.in_ok-spans.ensures.head in
    let plan = subst (λ (t : List ℕ). plan_in c.args.routes.now t headers spans ≡ Ok c.in_ok-plan.plan) c.as_slice.ensures.value
    (sym c.in_ok-plan.ensures.plan) in
    fault-weaker c.read_planned.result
    (λ why. IfSome mid (λ left. planned (span_bytes buf spans.path) (drop spans.len (buf ++ left)) c.in_ok-plan.plan ≡ Err why))
    (λ why. IfSome known (λ all. AsksOnly c.args.routes.now all (Err why)))
    (λ why failed. asks-planned c.args.routes.now known mid buf headers spans c.in_ok-plan.plan (Err why) c.in_ok-spans.ensures.taken head
    plan failed) c.read_planned.ensures.refused

pub returns-in_err-spans-clause-reads : goal.returns-in_err-spans-clause-reads
returns-in_err-spans-clause-reads g c = looked-only (body_length_of c.args.routes.now) g.S.Source.left g.S.Source.gives _ _ _ _ c.read_head.ensures.reads

pub returns-in_err-spans-clause-stops : goal.returns-in_err-spans-clause-stops
returns-in_err-spans-clause-stops g c = stops (body_length_of c.args.routes.now) g.S.Source.left g.S.Source.gives _ _ (returns-in_err-spans-clause-reads g c)

pub returns-in_default-clause-reads : goal.returns-in_default-clause-reads
returns-in_default-clause-reads g c = looked-only (body_length_of c.args.routes.now) g.S.Source.left g.S.Source.gives _ _ _ _ c.in_ok-spans.ensures.reads

pub returns-in_default-clause-stops : goal.returns-in_default-clause-stops
returns-in_default-clause-stops g c = stops (body_length_of c.args.routes.now) g.S.Source.left g.S.Source.gives _ _ (returns-in_default-clause-reads g c)

pub returns-in_err-plan-clause-reads : goal.returns-in_err-plan-clause-reads
returns-in_err-plan-clause-reads g c = looked-only (body_length_of c.args.routes.now) g.S.Source.left g.S.Source.gives _ _ _ _ c.in_ok-spans.ensures.reads

pub returns-in_err-plan-clause-stops : goal.returns-in_err-plan-clause-stops
returns-in_err-plan-clause-stops g c = stops (body_length_of c.args.routes.now) g.S.Source.left g.S.Source.gives _ _ (returns-in_err-plan-clause-reads g c)

pub returns-clause-reads : goal.returns-clause-reads
returns-clause-reads g c =
    let left = g.S.Source.left in
    let gives = g.S.Source.gives in
    let buf = c.read_head.new.buf.items in
    let headers = c.read_head.new.headers in
    let spans = c.in-Some.spans in
    let looked = c.in_ok-spans.ensures.reads in
    let found = rw c.in-Some.is at c.in_ok-spans.ensures.found in
    let plan = subst (λ (t : List ℕ). plan_in c.args.routes.now t headers spans ≡ Ok c.in_ok-plan.plan) c.as_slice.ensures.value
    (sym c.in_ok-plan.ensures.plan) in
    let long = planned-length c.args.routes.now buf headers spans c.in_ok-plan.plan found plan in
    body-only (body_length_of c.args.routes.now) left gives c.args.source.now c.read_head.new.source c.read_planned.new.source buf
    looked.bytes headers spans c.in_ok-plan.plan.length looked.reads looked.buffer found long c.read_planned.ensures.reads

pub returns-clause-stops : goal.returns-clause-stops
returns-clause-stops g c =
    stops (body_length_of c.args.routes.now) g.S.Source.left g.S.Source.gives c.args.source.now c.read_planned.new.source (returns-clause-reads g c)

pub returns-clause-most : goal.returns-clause-most
returns-clause-most g c =
    let known = g.S.Source.left c.args.source.now in
    let mid = g.S.Source.left c.read_head.new.source in
    let after = g.S.Source.left c.read_planned.new.source in
    let buf = c.read_head.new.buf.items in
    let spans = c.in-Some.spans in
    let within = rw c.in-Some.is at c.in_ok-spans.ensures.within in
    let is : length buf ≡ vec_len c.read_head.new.buf = omega (arith, c.read_head.new.buf.ok.0) in
    let short : spans.len ≤ 8192 = omega (arith, within.section.len_fits, is, c.in_ok-spans.ensures.few) in
    takes-whole spans.len c.in_ok-plan.plan.length (vec_len c.read_head.new.buf) known mid after buf
    c.in_ok-spans.ensures.taken is c.in_ok-spans.ensures.few short c.in_ok-plan.ensures.few
    c.read_planned.ensures.most

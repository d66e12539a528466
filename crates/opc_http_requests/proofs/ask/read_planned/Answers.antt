use Rattle.std.proofs.Common.{◌≡◌, ◌∙◌, ◌≤◌, ◌+◌, ◌++◌, ℕ, List, Ok, ap, arith, drop, length, refl, sym}
use Rattle.std.specs.Prelude.{slice_range}
use Rattle.std.proofs.lemmas.Result.{err_from_is_err_and}
use Rattle.httparse.specs.Spans.{span_bytes}
use Rattle.opc_http_requests.specs.Paths.{path_in}
use Rattle.opc_http_requests.specs.Requests.{planned, request_at}
use Rattle.opc_http_requests.proofs.Requester.{planned-request, refuses-planned}
use Rattle.opc_http_requests.proofs.BodyReads.{body-there, same-part}
use Rattle.opc_http_requests.proofs.ask.read_planned.Goals as goal

pub returns-in_err-request-clause-refused : goal.returns-in_err-request-clause-refused
returns-in_err-request-clause-refused g c =
    let known = g.S.Source.left c.args.source.now in
    let spans = c.args.spans.now in
    let old = c.args.buf.now.items in
    let new = c.read_to.new.buf.items in
    let read = rw c.if-not-branch.false at c.in_ok-read_to.ensures.reads in
    let low : spans.path.end ≤ length old = omega (arith, c.requires.path.1, c.requires.head, c.args.buf.now.ok.0) in
    let part : c.of.result.now ≡ span_bytes old spans.path =
    c.of.ensures ∙ ap (λ (t : List ℕ). slice_range t spans.path.start spans.path.end) c.as_slice.ensures.value
    ∙ same-part old read.moved new spans.path.start spans.path.end read.buffer c.requires.path.0 low in
    let path : path_in (span_bytes old spans.path) ≡ Ok c.in_ok-path.path.now = ap path_in (sym part) ∙ c.in_ok-path.ensures in
    let end = spans.len + c.args.plan.length in
    let body = slice_range new spans.len end in
    let used = slice_range c.deref.result.now spans.len end in
    let same : used ≡ body = ap (λ (t : List ℕ). slice_range t spans.len end) c.deref.ensures.value in
    let there = body-there known (g.S.Source.left c.read_to.new.source) old new spans.len c.args.plan.length read in
    let asked = request_at c.args.plan.route c.in_ok-path.path.now used in
    let err = err_from_is_err_and c.from_residual-in_err-request.result c.from_residual-in_err-request.ensures.1 in
    rw (err.1, err.2) (refuses-planned c.in_err-request.field-0.0 known
    (λ left. planned (span_bytes old spans.path) (drop spans.len (old ++ left)) c.args.plan) asked
    c.in_err-request.ensures
    (planned-request known old (span_bytes old spans.path) c.in_ok-path.path.now body used spans.len c.args.plan asked there same path refl))

pub returns-clause-asked : goal.returns-clause-asked
returns-clause-asked g c =
    let known = g.S.Source.left c.args.source.now in
    let spans = c.args.spans.now in
    let old = c.args.buf.now.items in
    let new = c.read_to.new.buf.items in
    let read = rw c.if-not-branch.false at c.in_ok-read_to.ensures.reads in
    let low : spans.path.end ≤ length old = omega (arith, c.requires.path.1, c.requires.head, c.args.buf.now.ok.0) in
    let part : c.of.result.now ≡ span_bytes old spans.path =
    c.of.ensures ∙ ap (λ (t : List ℕ). slice_range t spans.path.start spans.path.end) c.as_slice.ensures.value
    ∙ same-part old read.moved new spans.path.start spans.path.end read.buffer c.requires.path.0 low in
    let path : path_in (span_bytes old spans.path) ≡ Ok c.in_ok-path.path.now = ap path_in (sym part) ∙ c.in_ok-path.ensures in
    let end = spans.len + c.args.plan.length in
    let body = slice_range new spans.len end in
    let used = slice_range c.deref.result.now spans.len end in
    let same : used ≡ body = ap (λ (t : List ℕ). slice_range t spans.len end) c.deref.ensures.value in
    let there = body-there known (g.S.Source.left c.read_to.new.source) old new spans.len c.args.plan.length read in
    planned-request known old (span_bytes old spans.path) c.in_ok-path.path.now body used spans.len c.args.plan
    (Ok c.in_ok-request.request) there same path c.in_ok-request.ensures

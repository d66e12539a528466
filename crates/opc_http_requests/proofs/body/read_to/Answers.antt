use Rattle.std.proofs.Common.{◌≡◌, ◌∙◌, ◌≤◌, ◌<◌, ◌+◌, ◌-◌, ◌++◌, arith, min, refl, length, vec_len}
use Rattle.std.proofs.lemmas.Result.{err_from_is_err_and}
use Rattle.opc_http_requests.proofs.BodyReads.{filled, more-read, takes-failed}
use Rattle.opc_http_requests.proofs.body.read_to.Goals as goal

pub returns-in_err-read_more-clause-most : goal.returns-in_err-read_more-clause-most
returns-in_err-read_more-clause-most g c =
    let was : length c.args.buf.now.items ≡ vec_len c.args.buf.now = omega (arith, c.args.buf.now.ok.0) in
    let is : length c.loop-source.buf.items ≡ vec_len c.loop-source.buf = omega (arith, c.loop-source.buf.ok.0) in
    takes-failed c.args.length (vec_len c.args.buf.now) (vec_len c.loop-source.buf) (g.S.Source.left c.args.source.now)
    (g.S.Source.left c.loop-source.source) (g.S.Source.left c.read_more.new.source) c.args.buf.now.items
    c.loop-source.buf.items was is c.loop-source.invariant.0 c.read_more.ensures.most

pub returns-in_err-read_more-clause-blocks : goal.returns-in_err-read_more-clause-blocks
returns-in_err-read_more-clause-blocks g c =
    let inv = c.loop-source.invariant in
    let buf = c.loop-source.buf in
    let is : length buf.items ≡ vec_len buf = omega (arith, buf.ok.0) in
    let short : length buf.items < c.args.length = omega (arith, is) in
    let room : length buf.items + min 1024 (c.args.length - vec_len buf) ≤ c.args.length = omega (arith, is, short) in
    let once = c.read_more.ensures.once in
    let read = filled _ _ _ _ _ _ _ _ _ (buf.items ++ once.given) _ _ inv.1 short room (omega arith) once refl in
    let err = err_from_is_err_and c.from_residual.result c.from_residual.ensures.1 in
    rw err.1 (record { bytes = buf.items ++ once.given; reads = read; buffer = tt })

pub returns-then-branch-eq0-clause-blocks : goal.returns-then-branch-eq0-clause-blocks
returns-then-branch-eq0-clause-blocks g c =
    let inv = c.loop-source.invariant in
    let buf = c.loop-source.buf in
    let is : length buf.items ≡ vec_len buf = omega (arith, buf.ok.0) in
    let short : length buf.items < c.args.length = omega (arith, is) in
    let room : length buf.items + min 1024 (c.args.length - vec_len buf) ≤ c.args.length = omega (arith, is, short) in
    let once = c.in_ok-read_more.ensures.once in
    record {
      bytes = c.read_more.new.buf.items;
      reads = filled _ _ _ _ _ _ _ _ _ _ _ _ inv.1 short room (omega arith) once once.buffer;
      buffer = refl;
    }

pub loop-source-preserved : goal.loop-source-preserved
loop-source-preserved g c =
    let inv = c.loop-source.invariant in
    let buf = c.loop-source.buf in
    let is : length buf.items ≡ vec_len buf = omega (arith, buf.ok.0) in
    let short : length buf.items < c.args.length = omega (arith, is) in
    let room : length buf.items + min 1024 (c.args.length - vec_len buf) ≤ c.args.length = omega (arith, is, short) in
    let once = c.in_ok-read_more.ensures.once in (
      more-read _ _ _ _ _ _ _ _ inv.0 c.in_ok-read_more.ensures.more,
      filled _ _ _ _ _ _ _ _ _ _ _ _ inv.1 short room (omega arith) once once.buffer,
      c.in_ok-read_more.ensures.failed ∙ inv.2,
    )

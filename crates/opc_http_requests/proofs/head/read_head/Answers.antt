use Rattle.std.proofs.Common.{◌≡◌, ◌∙◌, ◌≤◌, ◌<◌, ◌+◌, ◌-◌, ◌++◌, ap, arith, min, refl, sym, length, vec_len}
use Rattle.std.proofs.lemmas.Result.{err_from_is_err_and}
use Rattle.opc_io.proofs.Reading.{takes-after}
use Rattle.opc_http_requests.proofs.HeadLemmas.{found, found-here, looked, none-by-error, none-by-room, nothing-more, more-there, read-further}
use Rattle.opc_http_requests.proofs.head.read_head.Goals as goal

pub returns-in-Whole-clause-head : goal.returns-in-Whole-clause-head
returns-in-Whole-clause-head g c =
    let inv = c.loop-turn.invariant in
    found _ _ _ _ _ inv.0 inv.1 c.start_of.ensures.room (rw c.as_slice.ensures.value at c.in-Whole.ensures.start)

pub returns-in-Never-clause-head : goal.returns-in-Never-clause-head
returns-in-Never-clause-head g c =
    let inv = c.loop-turn.invariant in
    none-by-error _ _ _ inv.0 inv.1 (rw c.as_slice.ensures.value at c.in-Never.ensures.start)

pub returns-then-len-eq-HEAD_LIMIT-clause-head : goal.returns-then-len-eq-HEAD_LIMIT-clause-head
returns-then-len-eq-HEAD_LIMIT-clause-head g c =
    let inv = c.loop-turn.invariant in
    let full : length c.loop-turn.buf.items ≡ 8192 =
    ap length (sym c.as_slice.ensures.value) ∙ c.as_slice.ensures.len ∙ sym c.len.ensures
    ∙ c.if-len-eq-HEAD_LIMIT.true in
    none-by-room _ _ _ inv.0 full (rw c.as_slice.ensures.value at c.in-Part.ensures.start).no_head

pub returns-then-branch-eq0-clause-head : goal.returns-then-branch-eq0-clause-head
returns-then-branch-eq0-clause-head g c =
    let inv = c.loop-turn.invariant in
    let len : length c.loop-turn.buf.items ≡ c.len.result = ap length (sym c.as_slice.ensures.value) ∙ c.as_slice.ensures.len ∙ sym c.len.ensures in
    let room : length c.loop-turn.buf.items < 8192 = omega (arith, len) in
    nothing-more _ _ _ _ _ _ inv.0 room c.in_ok-read_more.ensures.more c.if-branch-eq0.true (rw c.as_slice.ensures.value at c.in-Part.ensures.start).no_head

pub returns-in_err-read_more-clause-most : goal.returns-in_err-read_more-clause-most
returns-in_err-read_more-clause-most g c =
    let inv = c.loop-turn.invariant in
    takes-after 8192 _ _ _ _ c.loop-turn.buf.items inv.0 inv.1 (ap length (sym c.as_slice.ensures.value) ∙ c.as_slice.ensures.len) c.read_more.ensures.most

pub returns-in-Whole-clause-found : goal.returns-in-Whole-clause-found
returns-in-Whole-clause-found g c =
    let inv = c.loop-turn.invariant in
    found-here _ _ _ inv.1 c.start_of.ensures.room (rw c.as_slice.ensures.value at c.in-Whole.ensures.start)

pub returns-in_err-read_more-clause-reads : goal.returns-in_err-read_more-clause-reads
returns-in_err-read_more-clause-reads g c =
    let inv = c.loop-turn.invariant in
    let buf = c.loop-turn.buf in
    let is : length buf.items ≡ vec_len buf = omega (arith, buf.ok.0) in
    let room : length buf.items + min 1024 (8192 - vec_len buf) ≤ 8192 = omega (arith, is, inv.1) in
    let once = c.read_more.ensures.once in
    let read = looked _ _ _ _ _ _ _ (buf.items ++ once.given) _ _ inv.4 (rw c.as_slice.ensures.value at c.in-Part.ensures.start) room (omega arith) once refl in
    let err = err_from_is_err_and c.from_residual.result c.from_residual.ensures.1 in
    rw err.1 (record { bytes = buf.items ++ once.given; reads = read; buffer = tt })

pub returns-then-branch-eq0-clause-reads : goal.returns-then-branch-eq0-clause-reads
returns-then-branch-eq0-clause-reads g c =
    let inv = c.loop-turn.invariant in
    let buf = c.loop-turn.buf in
    let is : length buf.items ≡ vec_len buf = omega (arith, buf.ok.0) in
    let room : length buf.items + min 1024 (8192 - vec_len buf) ≤ 8192 = omega (arith, is, inv.1) in
    let once = c.in_ok-read_more.ensures.once in
    record {
      bytes = c.read_more.new.buf.items;
      reads = looked _ _ _ _ _ _ _ _ _ _ inv.4 (rw c.as_slice.ensures.value at c.in-Part.ensures.start) room (omega arith) once once.buffer;
      buffer = refl;
    }

pub loop-turn-preserved : goal.loop-turn-preserved
loop-turn-preserved g c =
    let inv = c.loop-turn.invariant in
    let buf = c.loop-turn.buf in
    let is : length buf.items ≡ vec_len buf = omega (arith, buf.ok.0) in
    let room : length buf.items + min 1024 (8192 - vec_len buf) ≤ 8192 = omega (arith, is, inv.1) in
    let once = c.in_ok-read_more.ensures.once in
    let more = c.in_ok-read_more.ensures.more in
    let grown : c.loop-turn._turn + 1 ≤ length c.read_more.new.buf.items = more-there _ _ _ _ _ _ inv.2 more c.if-branch-eq0.false in (
      read-further _ _ _ _ _ _ inv.0 more,
      more.fits,
      grown,
      c.start_of.ensures.room,
      looked _ _ _ _ _ _ _ _ _ _ inv.4 (rw c.as_slice.ensures.value at c.in-Part.ensures.start) room (omega arith) once once.buffer,
      c.in_ok-read_more.ensures.failed ∙ inv.5,
    )

use Rattle.std.proofs.Common.{◌≡◌, ◌∙◌, ◌+◌, ◌*◌, ap, arith, inl, pos}
use Rattle.std.proofs.lemmas.Result.{IfOk-weaker}
use Rattle.jiff.specs.Words.{civil_nanos}
use Rattle.opc_times.proofs.time.time_text.Goals as goal

pub returns-in-Ok : goal.returns-in-Ok
returns-in-Ok c =
    let more : 0 + c.args.moment * 1_000_000_000 ≡ c.args.moment * 1_000_000_000 = omega arith in
    let since : civil_nanos c.in-Ok.at ≡ pos (0 + c.args.moment * 1_000_000_000) =
    rw (c.epoch.ensures, c.from_secs.ensures) at c.in-Ok.ensures.value in
    IfOk-weaker c.format.result _ _ (λ time is. inl (record {
      at = c.in-Ok.at;
      since = since ∙ ap pos more;
      is = is;
    })) c.format.ensures.ok

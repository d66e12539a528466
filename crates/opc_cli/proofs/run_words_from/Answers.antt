use Rattle.std.proofs.Common.{◌∙◌, ◌≤◌, ap, drop, inl, inr, refl, subst, sym}
use Rattle.std.specs.Prelude.{string_bytes}
use Rattle.std.proofs.lemmas.List.{drop-map}
use Rattle.opc_cli_words.specs.Reading.{arguments, words_after}
use Rattle.opc_cli.proofs.Done.{at_most_three, failures_fail, same_words}
use Rattle.opc_cli.proofs.run_words_from.Goals as goal

pub returns-in-Ok : goal.returns-in-Ok
returns-in-Ok g c =
    let all = c.in-Ok.words.items in
    let same = ap words_after c.deref.ensures.value ∙ sym (drop-map string_bytes 1 all) ∙ ap (drop 1) c.in-Ok.ensures in
    record {
      most = subst (λ n. n ≤ 3) (sym c.number.ensures) (at_most_three c.do_words.result);
      done = (
        c.do_words.result,
        c.number.ensures,
        same_words _ _ _ _ _ g.W.Write.contents g.E.Write.contents _ (words_after c.deref.result.now) (arguments c.args.words.now)
            c.args.output.now c.do_words.new.output c.args.errors.now c.do_words.new.errors c.do_words.result same c.do_words.ensures,
      );
    }

pub returns-in-Err : goal.returns-in-Err
returns-in-Err g c =
    let failure = inl c.from.ensures in
    record {
      most = subst (λ n. n ≤ 3) (sym c.number-in-Err.ensures) (at_most_three c.report.result);
      done = (
        c.report.result,
        c.number-in-Err.ensures,
        inr (rw (c.report.ensures.status ∙ failures_fail c.from.result.fault failure)
            (record { fault = c.from.result.fault; failure = failure; printed = c.report.ensures.reported })),
      );
    }

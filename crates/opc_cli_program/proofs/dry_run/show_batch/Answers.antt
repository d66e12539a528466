use Rattle.std.proofs.Common.{◌∙◌, ◌++◌, ap, append-nil, refl, subst}
use Rattle.std.specs.Io.KnownBytes.{Appends}
use Rattle.std.proofs.KnownBytes.{Appends-trans}
use Rattle.opc_cli_program.proofs.dry_run.show_batch.Goals as goal

pub returns-clause-shown : goal.returns-clause-shown
returns-clause-shown g c = λ sure s was.
    let shown = c.in_ok-show_change.ensures.shown sure s was in
    let text = ap (λ l. l ++ c.as_str.result.now) (append-nil shown.3)
    ∙ ap (λ l. shown.3 ++ l) (c.as_str.ensures.value ∙ c.in-Ok.ensures) in (
      refl,
      shown.1,
      shown.2,
      shown.3,
      shown.4,
      subst (Appends (g.W.Write.contents c.args.output.now) (g.W.Write.contents c.print_text.new.output)) text
          (Appends-trans _ _ _ _ _ shown.5 c.in_ok-print_text.ensures.text),
    )

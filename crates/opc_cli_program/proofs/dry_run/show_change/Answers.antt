use Rattle.std.proofs.Common.{append-nil, refl, subst, sym}
use Rattle.std.specs.Io.KnownBytes.{Appends}
use Rattle.opc_cli_program.proofs.dry_run.show_change.Goals as goal

pub returns-clause-shown : goal.returns-clause-shown
returns-clause-shown g c = λ sure s was.
    let shown = c.in_ok-print_difference.ensures in (
      refl,
      c.in_ok-after.after,
      c.in_ok-after.ensures.side sure s was,
      shown.0,
      shown.1.0,
      subst (Appends (g.W.Write.contents c.args.output.now) (g.W.Write.contents c.print_difference.new.output))
          (sym (append-nil shown.0)) shown.2,
    )

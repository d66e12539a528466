use Rattle.std.proofs.Common.{Ok}
use Rattle.opc_cli_failures.specs.declared.status.Status.TheVariants.{Done}
use Rattle.opc_cli_program.proofs.dry_run.try_first.Goals as goal

pub returns-clause-sure : goal.returns-clause-sure
returns-clause-sure g c = λ sure.
    c.in_ok-before.ensures.kept.sure (c.in_ok-take_first.ensures.sure (c.show_change.ensures.kept.sure sure))

pub returns-clause-tried : goal.returns-clause-tried
returns-clause-tried g c = λ sure s was.
    let kept = c.show_change.ensures.kept in
    let met = kept.sure sure in
    let loaded = c.in_ok-take_first.ensures.sure met in
    let taken = (c.in_ok-take_first.ensures.takes.taken met s (c.in_ok-before.ensures.kept.same loaded s was)).done in (
      Ok c.in_ok-before.before,
      c.in_ok-before.ensures.side loaded s was,
      (
        Ok Done,
        (
          taken.next,
          taken.becomes,
          kept.same sure taken.next taken.represented,
          c.show_change.ensures.shown sure taken.next taken.represented,
        ),
      ),
    )

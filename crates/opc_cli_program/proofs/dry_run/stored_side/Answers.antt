use Rattle.std.proofs.Common.{inl, subst}
use Rattle.opc_cli_questions.specs.Sides.{IsSideOf}
use Rattle.opc_cli_program.proofs.dry_run.stored_side.Goals as goal

pub returns-in-Ok-clause-side : goal.returns-in-Ok-clause-side
returns-in-Ok-clause-side g c = λ sure s was.
    subst (λ rows. IsSideOf rows c.side_of.result) (c.in-Ok.ensures.rows.answers sure s was) c.side_of.ensures

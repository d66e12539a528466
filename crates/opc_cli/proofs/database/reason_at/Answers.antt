use Rattle.opc_cli.proofs.database.reason_at.Goals as goal

pub tidy-requires : goal.tidy-requires
tidy-requires c = rw c.in-Ok-Some.field-0-is at c.in-Ok-Some.ensures.found

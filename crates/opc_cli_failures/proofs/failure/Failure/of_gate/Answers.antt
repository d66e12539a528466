use Rattle.std.proofs.Common.{refl, sym}
use Rattle.opc_cli_failures.proofs.Faults.{no_cause}
use Rattle.opc_cli_failures.proofs.failure.Failure.of_gate.Goals as goal

pub returns-in_default : goal.returns-in_default
returns-in_default c = record { fault = refl; cause = sym (no_cause c.args.fault c.in_default.not-Store) }

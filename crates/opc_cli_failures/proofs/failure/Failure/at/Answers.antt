use Rattle.std.proofs.Common.{subst, sym}
use Rattle.opc_cli_failures.specs.Statuses.{IsFailure}
use Rattle.opc_cli_failures.proofs.Faults.{streams_are_failures}
use Rattle.opc_cli_failures.proofs.failure.Failure.at.Goals as goal

pub returns-clause-failure : goal.returns-clause-failure
returns-clause-failure c = subst IsFailure (sym c.fault_of.ensures) (streams_are_failures _)

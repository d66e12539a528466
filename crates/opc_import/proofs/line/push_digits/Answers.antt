use Rattle.opc_import.proofs.RoundTrip.{digest-back}
use Rattle.opc_import.proofs.line.push_digits.Goals as goal

pub returns-clause-valid : goal.returns-clause-valid
returns-clause-valid c = digest-back c.args.digest.now c.told-digest c.fits-digest

use Rattle.opc_import.proofs.RoundTrip.{on-ok, valid-in-all}
use Rattle.opc_import.proofs.line.fill.Goals as goal

pub returns-clause-valid : goal.returns-clause-valid
returns-clause-valid c =
    on-ok c.push-9.result (valid-in-all c.args.row.now c.name_in.ensures.valid c.id_in.ensures.valid
    c.owner_in.ensures.valid c.push_digest.ensures.valid c.when_in.ensures.valid)

use Rattle.opc_check_notes.proofs.Serving.{serves_so}
use Rattle.opc_check_notes.proofs.entry_notes.serves_nobody.Goals as goal

pub returns-in-Permit : goal.returns-in-Permit
returns-in-Permit c =
    serves_so c.args.known.now c.args.row.now c.in-Permit.class c.in-Permit.pattern c.in-Permit.id c.in-Permit.level
    c.in-Permit.when c.idle.result (cc) (cc)

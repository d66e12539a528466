use Rattle.opc_check_notes.proofs.Placing.{placed_as}
use Rattle.opc_check_notes.proofs.entries.placed.Goals as goal

pub returns-in-Permit : goal.returns-in-Permit
returns-in-Permit c =
    placed_as c.args.members.now c.args.row.now c.in-Permit.class c.in-Permit.pattern c.in-Permit.id c.in-Permit.level
    c.in-Permit.when c.of_members.result (cc) c.of_members.ensures

use Rattle.std.proofs.Common.{sym, ◌∙◌}
use Rattle.opc_check_notes.proofs.Before.{unmet_so}
use Rattle.opc_check_notes.proofs.deciding.no_resource.Goals as goal

pub returns-in_ok-is_met-in-Some : goal.returns-in_ok-is_met-in-Some
returns-in_ok-is_met-in-Some c =
    unmet_so c.args.row.now c.in-Some.pattern c.in_ok-is_met-in-Some.field-0 c.if_so.result
    (sym c.in-Some.is ∙ c.opercmds_pattern.ensures) c.in_ok-is_met-in-Some.ensures c.if_so.ensures

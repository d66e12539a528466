use Rattle.std.proofs.Common.{sym, ◌∙◌}
use Rattle.opc_check_notes.proofs.Before.{never_so}
use Rattle.opc_check_notes.proofs.deciding.never_decides.Goals as goal

pub returns-in_ok-is_preceded-in-Some : goal.returns-in_ok-is_preceded-in-Some
returns-in_ok-is_preceded-in-Some c =
    never_so c.args.known.now c.args.row.now c.in-Some.pattern c.in_ok-is_preceded-in-Some.field-0 c.if_so.result
    (sym c.in-Some.is ∙ c.opercmds_pattern.ensures) c.in_ok-is_preceded-in-Some.ensures c.if_so.ensures

use Rattle.std.proofs.Common.{Global, Some, Vec}
use Rattle.std.specs.Option.{option_copied}
use Rattle.opc_answers_diff.specs.declared.asked.Asked.TheVariants.{Logon}
use Rattle.opc_answers_diff.specs.declared.verdicts.UserChange.{UserChange}
use Rattle.opc_answers_diff.proofs.Skipped.{enough_lines}
use Rattle.opc_answers_diff.proofs.logons.changes_by.Goals as goal

pub returns : goal.returns
returns c =
    enough_lines (λ (v : Vec UserChange Global). v.items) Logon (option_copied c.args.one) (option_copied c.args.other)
    c.members_by-members.result.now c.args.compared.now.members (Some c.args.console.now) c.changes_at.result c.members_by-members.ensures
    c.changes_at.ensures

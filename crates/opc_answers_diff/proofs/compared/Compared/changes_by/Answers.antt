use Rattle.std.proofs.Common.{Global, Vec}
use Rattle.std.specs.Option.{option_copied}
use Rattle.opc_answers_diff.specs.declared.verdicts.UserChange.{UserChange}
use Rattle.opc_answers_diff.proofs.Skipped.{enough_sections}
use Rattle.opc_answers_diff.proofs.compared.Compared.changes_by.Goals as goal

pub returns : goal.returns
returns c =
    enough_sections (λ (v : Vec UserChange Global). v.items) c.args.asked.now (option_copied c.args.one) (option_copied c.args.other)
    c.members_by-members.result.now c.args.self.now.members c.user_changes.result c.members_by-members.ensures c.user_changes.ensures

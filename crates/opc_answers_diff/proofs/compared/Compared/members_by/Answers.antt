use Rattle.std.proofs.Common.{◌∙◌}
use Rattle.std.specs.Option.{option_copied}
use Rattle.opc_answers_diff.proofs.Skipped.{enough_all, enough_changed}
use Rattle.opc_answers_diff.proofs.compared.Compared.members_by.Goals as goal

pub returns-then-is_unchanged : goal.returns-then-is_unchanged
returns-then-is_unchanged c =
    enough_changed (option_copied c.args.one) (option_copied c.args.other) c.as_slice.result.now c.args.self.now.members
    (c.is_unchanged.ensures c.if-is_unchanged.true) (c.as_slice.ensures ∙ c.requires.changed)

pub returns-else-is_unchanged : goal.returns-else-is_unchanged
returns-else-is_unchanged c =
    enough_all (option_copied c.args.one) (option_copied c.args.other) c.as_slice-else-is_unchanged.result.now c.args.self.now.members
    c.as_slice-else-is_unchanged.ensures

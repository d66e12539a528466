use Rattle.opc_answers.proofs.Admitted.{logon_by}
use Rattle.opc_answers.specs.Made.{state_of}
use Rattle.opc_answers.specs.Deciding.{decider}
use Rattle.opc_names.specs.declared.class.Class.TheVariants.{Console}
use Rattle.std.specs.Option.{option_copied}
use Rattle.std.proofs.Common.{ap, ◌∙◌}
use Rattle.opc_answers.proofs.lines.logon_ruling.Goals as goal

pub returns : goal.returns
returns c =
    c.admitted_or.ensures
    ∙ logon_by (state_of c.args.room.now.policy c.args.room.now.board) c.args.console.now c.args.user.now
    (option_copied c.deciding-decided.result) _ _
    (c.deciding-decided.ensures ∙ ap (decider c.args.room.now.policy Console) c.resource_of-resource.ensures)
    (c.deref.ensures.value ∙ c.in_ok-groups.ensures) c.line_of-line.ensures

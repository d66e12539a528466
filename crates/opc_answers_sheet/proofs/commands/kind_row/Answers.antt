use Rattle.std.proofs.Common.{◌∙◌, ap, map, sym}
use Rattle.std.specs.Option.{option_copied}
use Rattle.std.proofs.lemmas.Result.{IfOk-weaker}
use Rattle.opc_policy_deciders.specs.Forms.{forms}
use Rattle.opc_policy_deciders.specs.Kinds.{examples}
use Rattle.opc_answers_sheet.specs.Commands.{asked_row, who_about}
use Rattle.opc_answers_sheet.proofs.Decided.{decides_first}
use Rattle.opc_answers_sheet.proofs.Rowing.{row_of_first}
use Rattle.opc_answers_sheet.proofs.commands.kind_row.Goals as goal

pub returns : goal.returns
returns c =
    let policy = c.args.room.now.policy in
    let board = c.args.room.now.board in
    let first = sym c.first_need.ensures ∙ c.in-Some.is in
    let names = ap (map (λ name. name.now)) c.as_slice.ensures.value ∙ c.in_ok-names.ensures in
    IfOk-weaker c.asked_row.result _ _
    (λ row is. is ∙ ap (λ names. asked_row names (who_about policy board c.in-Some.need)) names
    ∙ row_of_first policy board (examples c.args.kind.now forms c.args.found.now) c.in-Some.need first)
    c.asked_row.ensures

pub asked_row-requires-clause-decided : goal.asked_row-requires-clause-decided
asked_row-requires-clause-decided c =
    decides_first c.args.room.now.policy (option_copied c.args.decided) c.args.kind.now forms c.args.found.now
    c.in-Some.need c.requires.decided (sym c.first_need.ensures ∙ c.in-Some.is)

use Rattle.std.proofs.Common.{◌∙◌, None, ap, arith}
use Rattle.std.proofs.lemmas.Result.{IfOk-weaker}
use Rattle.opc_answers_sheet.specs.Cells.{users_at}
use Rattle.opc_answers_sheet.proofs.Few.{named_suffice}
use Rattle.opc_answers_sheet.proofs.everywhere.text_of_named.Goals as goal

pub returns-then-len-unlisted : goal.returns-then-len-unlisted
returns-then-len-unlisted c =
    IfOk-weaker c.users_at.result _ _
    (λ text is. is ∙ ap (users_at None c.saturating_sub-unlisted.result) c.as_slice.ensures.value
    ∙ named_suffice c.args.profile.now c.args.level c.args.callers.now c.in_ok-named.named.items c.saturating_sub-unlisted.result c.requires
    c.in_ok-named.ensures (omega (arith, c.saturating_sub-unlisted.ensures, c.len.ensures)) (omega (arith, c.if-len-unlisted.true, c.len-2.ensures)))
    c.users_at.ensures

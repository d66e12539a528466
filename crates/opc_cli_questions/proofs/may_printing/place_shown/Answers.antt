use Rattle.std.proofs.Common.{◌∙◌, ap, subst}
use Rattle.std.proofs.lemmas.Result.{IfOk-weaker}
use Rattle.std.specs.List.{slice_get}
use Rattle.opc_policy_deciders.specs.Decided.{AreShortest, IsDecided}
use Rattle.opc_policy_deciders.specs.Forms.{forms}
use Rattle.opc_answers_may.specs.Commands.{profile_at, sections_of}
use Rattle.opc_cli_questions.specs.MayPrinted.{sections_shown}
use Rattle.opc_cli_questions.proofs.may_printing.place_shown.Goals as goal

pub returns : goal.returns
returns c =
    let may = c.args.may.now in
    let place = c.args.place in
    let all = c.requires.all.all in
    let items = c.in_ok-decided.decided.items in
    IfOk-weaker c.sections_shown.result _ _ (λ text is. (
      items,
      subst (λ patterns. AreShortest (IsDecided may.room.policy (slice_get patterns place)) forms items) all c.in_ok-decided.ensures,
      is ∙ ap (λ found. sections_shown c.args.form c.args.allowed found c.as_slice-sections.result.now) c.as_slice-found.ensures.value
          ∙ ap (sections_shown c.args.form c.args.allowed items) (c.as_slice-sections.ensures ∙ c.in_ok-made.ensures
          ∙ ap (sections_of may) (c.profile_at.ensures ∙ ap (λ patterns. profile_at may.room.policy patterns place) all)),
    )) c.sections_shown.ensures

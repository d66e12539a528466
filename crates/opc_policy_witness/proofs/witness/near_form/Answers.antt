use Rattle.std.proofs.Common.{◌≡◌, ◌∙◌, ap, rules}
use Rattle.std.specs.List.{list_any}
use Rattle.std.proofs.lemmas.Result.{IfOk-weaker}
use Rattle.opc_names.specs.Patterns.{covers_text}
use Rattle.opc_policy_witness.specs.Forms.{first_words}
use Rattle.opc_policy_witness.proofs.Leading.{near_cover}
use Rattle.opc_policy_witness.proofs.witness.near_form.Goals as goal

pub returns : goal.returns
returns c =
    let words : c.as_slice-2.result.now ≡ first_words c.args.form.now = search rules in
    let ends : c.as_slice.result.now ≡ c.in_ok-near.near.items = search rules in
    IfOk-weaker c.those_may_begin.result _ _
    (λ near is resource of_form all. near_cover c.args.form.now c.as_slice-2.result.now near.items c.as_slice.result.now words is resource of_form
    ∙ ap (list_any (λ q. covers_text q resource)) ends ∙ c.in_ok-near.ensures resource all) c.those_may_begin.ensures

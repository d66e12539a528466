use Rattle.std.proofs.Common.{◌∙◌, ap, ℕ, List}
use Rattle.std.specs.List.{list_any}
use Rattle.std.proofs.lemmas.Result.{IfOk-weaker}
use Rattle.opc_names.specs.Patterns.{covers_text}
use Rattle.opc_policy_deciders.proofs.Gathering.{near_both}
use Rattle.opc_policy_deciders.proofs.pairs.near_all.Goals as goal

pub returns : goal.returns
returns c =
    IfOk-weaker c.near_these.result _ _
    (λ kept is resource all. is resource all ∙ ap (list_any (λ (q : List ℕ). covers_text q resource)) c.as_slice.ensures.value
    ∙ near_both c.args.include.now c.beginning-text.result.now c.new-list.result.items c.add_near.new.list.items c.add_near-2.new.list.items
    c.args.one.now c.args.other.now c.beginning-text.ensures c.new-list.ensures.items c.in_ok-add_near.ensures c.in_ok-add_near-2.ensures resource all)
    c.near_these.ensures

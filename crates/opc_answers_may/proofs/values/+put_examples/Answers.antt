use Rattle.serde_json.specs.View.{members_view}
use Rattle.std.proofs.Common.{ap, sym, map}
use Rattle.std.proofs.lemmas.List.{take_rest}
use Rattle.std.proofs.Common.{[], ◌∷◌, drop, get_or}
use Rattle.opc_policy_deciders.specs.Forms.{asked}
use Rattle.opc_answers_may.specs.Commands.{shown}
use Rattle.opc_answers_may.proofs.Shown.{by_first, examples_more, none_found, none_left, on_ok}
use Rattle.opc_answers_may.specs.MayJson.{with_examples}
use Rattle.opc_answers_may.proofs.values.+put_examples.Goals as goal

pub returns-in_default : goal.returns-in_default
returns-in_default t c =
    sym (ap (λ l. with_examples (members_view c.args.object.now.entries) l)
    (none_left c.args.which.now c.args.forms.now c.args.found.now c.in_default.len_below))

pub returns-in_default-found : goal.returns-in_default-found
returns-in_default-found t c =
    sym (ap (λ l. with_examples (members_view c.args.object.now.entries) l)
    (none_found c.args.which.now c.args.forms.now c.args.found.now c.in_default-found.len_below))

pub returns : goal.returns
returns t c =
    on_ok c.put_examples.result _ _ c.put_examples.ensures (λ e.
    examples_more (shown c.args.which.now (asked (get_or c.args.forms.now 0 _) ∷ []) (c.first-item.result ∷ []))
    (shown c.args.which.now (map asked (drop 1 c.args.forms.now)) (drop 1 c.args.found.now)) _ _ _ _
    (by_first c.args.which.now c.args.forms.now _ c.args.found.now c.first-item.result
    c.in-len1-up.len_at_least c.in-len1-up-found.len_at_least c.first-item.is) c.in_ok-put_example.ensures (rw (take_rest, take_rest) at e))

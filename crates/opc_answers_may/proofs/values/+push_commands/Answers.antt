use Rattle.serde_json.specs.View.{view}
use Rattle.std.proofs.Common.{ap, sym, ◌∙◌, ◌++◌, append-nil, map}
use Rattle.std.proofs.lemmas.List.{take_rest}
use Rattle.serde_json.specs.Data.{string}
use Rattle.opc_answers_may.proofs.Shown.{by_first, commands_more, none_found, none_left, on_ok}
use Rattle.opc_answers_may.specs.MayTexts.{name_of}
use Rattle.opc_answers_may.proofs.values.+push_commands.Goals as goal

pub returns-in_default : goal.returns-in_default
returns-in_default t c =
    sym (append-nil (map view c.args.items.now.items)) ∙ sym (ap (λ l. map view c.args.items.now.items ++ map string (map name_of l))
    (none_left c.args.which.now c.args.forms.now c.args.found.now c.in_default.len_below))

pub returns-in_default-found : goal.returns-in_default-found
returns-in_default-found t c =
    sym (append-nil (map view c.args.items.now.items)) ∙ sym (ap (λ l. map view c.args.items.now.items ++ map string (map name_of l))
    (none_found c.args.which.now c.args.forms.now c.args.found.now c.in_default-found.len_below))

pub returns : goal.returns
returns t c =
    on_ok c.push_commands.result _ _ c.push_commands.ensures (λ e.
    commands_more _ _ _ _ _ _ (by_first c.args.which.now c.args.forms.now _ c.args.found.now c.first-item.result
    c.in-len1-up.len_at_least c.in-len1-up-found.len_at_least c.first-item.is) c.in_ok-push_command.ensures (rw (take_rest, take_rest) at e))

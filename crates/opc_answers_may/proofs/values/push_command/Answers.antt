use Rattle.serde_json.specs.View.{view}
use Rattle.std.specs.Prelude.{not}
use Rattle.std.proofs.Common.{ap, sym, ◌∙◌, ◌++◌, append-nil, map}
use Rattle.opc_policy_deciders.specs.Forms.{asked}
use Rattle.serde_json.specs.Data.{string}
use Rattle.opc_answers_may.proofs.Shown.{not_found, not_taken}
use Rattle.opc_answers_may.specs.MayTexts.{name_of}
use Rattle.opc_answers_may.proofs.values.push_command.Goals as goal

pub returns-then-is_none : goal.returns-then-is_none
returns-then-is_none c =
    sym (append-nil (map view c.args.items.now.items))
    ∙ sym (ap (λ l. map view c.args.items.now.items ++ map string (map name_of l))
    (not_found c.args.which.now (asked c.args.form.now)
    c.args.found.now (c.is_none.ensures ∙ ap not c.if-is_none.true)))

pub returns-then-not-takes : goal.returns-then-not-takes
returns-then-not-takes c =
    sym (append-nil (map view c.args.items.now.items))
    ∙ sym (ap (λ l. map view c.args.items.now.items ++ map string (map name_of l))
    (not_taken c.args.which.now (asked c.args.form.now)
    c.args.found.now (sym c.takes.ensures ∙ c.if-not-takes.true)))

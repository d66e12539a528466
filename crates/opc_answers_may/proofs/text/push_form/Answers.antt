use Rattle.std.specs.Prelude.{not, string_bytes}
use Rattle.std.proofs.Common.{ap, map, sym, ◌∙◌}
use Rattle.opc_policy_deciders.specs.Forms.{asked}
use Rattle.opc_answers_may.proofs.Shown.{name_taken, not_found, not_taken, on_ok}
use Rattle.opc_answers_may.specs.MayTexts.{name_of, with_names}
use Rattle.opc_answers_may.proofs.text.push_form.Goals as goal

pub returns-then-is_none : goal.returns-then-is_none
returns-then-is_none c =
    sym (ap (λ l. with_names (string_bytes c.args.list.now) (map name_of l))
    (not_found c.args.which.now (asked c.args.form.now) c.args.found.now
    (c.is_none.ensures ∙ ap not c.if-is_none.true)))

pub returns-then-not-takes : goal.returns-then-not-takes
returns-then-not-takes c =
    sym (ap (λ l. with_names (string_bytes c.args.list.now) (map name_of l))
    (not_taken c.args.which.now (asked c.args.form.now) c.args.found.now
    (sym c.takes.ensures ∙ c.if-not-takes.true)))

pub returns : goal.returns
returns c =
    on_ok c.push_name.result _ _ c.push_name.ensures (λ e.
    e ∙ sym (ap (with_names (string_bytes c.args.list.now)) (name_taken c.args.which.now (asked c.args.form.now)
    c.args.found.now (c.is_none.ensures ∙ ap not c.if-is_none.false) (sym c.takes.ensures ∙ c.if-not-takes.false))))

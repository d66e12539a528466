use Rattle.std.proofs.Common.{ap, ◌∙◌}
use Rattle.std.specs.Prelude.{string_bytes}
use Rattle.std.proofs.lemmas.List.{take_rest}
use Rattle.opc_answers_may.proofs.Rows.{consoles_more, consoles_none}
use Rattle.opc_answers_may.proofs.Shown.{on_ok}
use Rattle.opc_answers_may.specs.MayTexts.{with_name}
use Rattle.opc_answers_may.proofs.text.+push_consoles.Goals as goal

pub returns-in_default : goal.returns-in_default
returns-in_default t c = consoles_none c.args.row.now (string_bytes c.args.list.now) c.in_default.len_below

pub returns : goal.returns
returns t c =
    on_ok c.push_consoles.result _ _ c.push_consoles.ensures (λ e.
    consoles_more c.args.row.now c.logon-item.result (string_bytes c.args.list.now) (string_bytes c.push_name.new.list)
    (string_bytes c.push_consoles.new.list) c.in-len1-up.len_at_least c.logon-item.is
    (c.in_ok-push_name.ensures ∙ ap (with_name (string_bytes c.args.list.now)) c.text.ensures.text) (rw take_rest at e))

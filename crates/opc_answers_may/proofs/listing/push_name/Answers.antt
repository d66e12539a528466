use Rattle.std.proofs.Common.{sym, ◌∙◌}
use Rattle.opc_answers_may.proofs.Lines.{name_first, name_next}
use Rattle.opc_answers_may.proofs.listing.push_name.Goals as goal

pub returns-then-is_empty : goal.returns-then-is_empty
returns-then-is_empty c = name_first _ c.args.name.now _ c.as_str.result.now c.as_str.ensures.value
    (sym c.is_empty.ensures ∙ c.if-is_empty.true) c.in_ok-push_str.ensures.bytes

pub returns : goal.returns
returns c = name_next _ c.args.name.now _ _ c.as_str.result.now c.as_str.ensures.value
    (sym c.is_empty.ensures ∙ c.if-is_empty.false) c.in_ok-push_str-2.ensures.bytes c.in_ok-push_str-3.ensures.bytes

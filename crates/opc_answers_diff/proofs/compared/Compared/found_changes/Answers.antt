use Rattle.std.proofs.Common.{◌∙◌, ap, length, Global, Vec}
use Rattle.std.specs.Prelude.{◌==◌}
use Rattle.serde_json.specs.Data.{string}
use Rattle.serde_json.specs.View.{view}
use Rattle.opc_answers_diff.specs.declared.verdicts.UserChange.{UserChange}
use Rattle.opc_answers_diff.proofs.Finding.{found_any, found_none}
use Rattle.opc_answers_diff.proofs.compared.Compared.found_changes.Goals as goal

pub returns-then-is_empty : goal.returns-then-is_empty
returns-then-is_empty c =
    found_none c.args.self.now c.args.kind.now c.args.found.now c.args.at c.args.other_at view string c.in_ok-names.names.items c.is_empty.result
    c.in_ok-names.ensures (c.is_empty.ensures ∙ ap (λ l. length l == 0) c.as_slice.ensures.value) c.new.result.items c.if-is_empty.true
    c.new.ensures.items

pub returns : goal.returns
returns c =
    found_any c.args.self.now c.args.kind.now c.args.found.now c.args.at c.args.other_at view string c.in_ok-names.names.items c.is_empty.result
    c.in_ok-names.ensures (c.is_empty.ensures ∙ ap (λ l. length l == 0) c.as_slice.ensures.value) (λ (v : Vec UserChange Global). v.items)
    c.kind_changes.result c.if-is_empty.false c.kind_changes.ensures

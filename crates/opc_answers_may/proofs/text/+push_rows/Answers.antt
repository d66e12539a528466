use Rattle.std.specs.Prelude.{string_bytes}
use Rattle.std.proofs.Common.{◌<◌, ◌≤◌, ◌∙◌, length, rules}
use Rattle.opc_answers_may.proofs.Rows.{rows_few, rows_more, some_of}
use Rattle.opc_answers_may.proofs.Shown.{on_ok}
use Rattle.opc_answers_may.proofs.text.+push_rows.Goals as goal

pub returns-then-logons-le7 : goal.returns-then-logons-le7
returns-then-logons-le7 t c =
    let some : 1 ≤ length c.args.logons.now = some_of c.args.logons.now _ c.is_empty.ensures c.if-is_empty.false in
    let few : length c.args.logons.now ≤ 7 = search rules in
    rows_few c.args.column.now c.args.logons.now (string_bytes c.args.text.now) c.as_str.result.now (string_bytes c.push_str.new.self)
    some few (c.as_str.ensures.value ∙ c.in_ok-logon_row.ensures) c.in_ok-push_str.ensures.bytes

pub returns : goal.returns
returns t c =
    let many : 7 < length c.args.logons.now = search rules in
    on_ok c.push_rows.result _ _ c.push_rows.ensures (λ e.
    rows_more c.args.column.now c.args.logons.now c.split_at.result.0.now c.split_at.result.1.now (string_bytes c.args.text.now)
    c.as_str-2.result.now (string_bytes c.push_str-2.new.self) (string_bytes c.push_rows.new.text) many c.split_at.ensures.front
    c.split_at.ensures.back (c.as_str-2.ensures.value ∙ c.in_ok-logon_row-2.ensures) c.in_ok-push_str-2.ensures.bytes e)

use Rattle.std.proofs.Common.{◌∙◌, arith}
use Rattle.std.specs.Prelude.{string_bytes}
use Rattle.opc_answers_may.specs.MayTexts.{forms_line}
use Rattle.opc_answers_may.proofs.Rows.{flat_more}
use Rattle.opc_answers_may.proofs.text.forms_lines.Goals as goal

pub loop-line-preserved : goal.loop-line-preserved
loop-line-preserved c =
    flat_more (forms_line c.args.allowed c.args.found.now) c.args.lines.now c.loop-line.line-index c.line-item.result
    (string_bytes c.loop-line.text) c.as_str.result.now (string_bytes c.push_str.new.self) (omega arith) c.line-item.is
    c.loop-line.invariant (c.as_str.ensures.value ∙ c.in_ok-forms_line.ensures) c.in_ok-push_str.ensures.bytes

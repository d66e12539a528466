use Rattle.std.proofs.Common.{◌∙◌, arith}
use Rattle.std.specs.Prelude.{string_bytes}
use Rattle.opc_answers_may.specs.MayJson.{forms_json}
use Rattle.opc_answers_may.proofs.Rows.{flat_more}
use Rattle.opc_answers_may.proofs.json.section_json.Goals as goal

pub loop-line-preserved : goal.loop-line-preserved
loop-line-preserved c =
    flat_more (forms_json c.args.allowed c.args.found.now c.args.section.now.head) c.as_slice-line-items.result.now
    c.loop-line.line-index c.line-item.result (string_bytes c.loop-line.text) c.as_str.result.now (string_bytes c.push_str.new.self)
    (omega arith) c.line-item.is c.loop-line.invariant (c.as_str.ensures.value ∙ c.in_ok-forms_json.ensures)
    c.in_ok-push_str.ensures.bytes

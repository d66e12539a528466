use Rattle.std.proofs.Common.{◌∙◌, arith}
use Rattle.std.specs.Prelude.{string_bytes}
use Rattle.opc_answers_may.proofs.Rows.{flat_more}
use Rattle.opc_answers_sheet.specs.Commands.{console_text, who_about}
use Rattle.opc_answers_sheet.proofs.commands.consoles_text.Goals as goal

pub loop-console-preserved : goal.loop-console-preserved
loop-console-preserved c =
    flat_more (console_text (who_about c.args.room.now.policy c.args.room.now.board c.args.need.now)) c.args.consoles.now
    c.loop-console.console-index c.console-item.result (string_bytes c.loop-console.text) c.as_str.result.now
    (string_bytes c.push_str.new.self) (omega arith) c.console-item.is c.loop-console.invariant
    (c.as_str.ensures.value ∙ c.in_ok-console_text.ensures) c.in_ok-push_str.ensures.bytes

use Rattle.std.proofs.Common.{◌≡◌, flat_map, take}
use Rattle.std.specs.Prelude.{string_bytes}
use Rattle.opc_answers_sheet.specs.Commands.{console_text, who_about}
use Rattle.opc_answers_sheet.proofs.commands.consoles_text.Given as goal

abbrev pub invariant-loop-console : goal.invariant-loop-console
invariant-loop-console l = string_bytes l.text
    ≡ flat_map (console_text (who_about l.room.policy l.room.board l.need)) (take l.console-index l.consoles)

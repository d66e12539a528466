use Rattle.std.proofs.Common.{◌≡◌, flat_map, take}
use Rattle.std.specs.Prelude.{string_bytes}
use Rattle.opc_answers_sheet.specs.Page.{note_item}
use Rattle.opc_answers_sheet.proofs.page.note_items.Given as goal

abbrev pub invariant-loop-note : goal.invariant-loop-note
invariant-loop-note l = string_bytes l.text ≡ flat_map note_item (take l.note-index l.list)

use Rattle.std.proofs.Common.{◌≡◌, flat_map, take}
use Rattle.std.specs.Prelude.{string_bytes}
use Rattle.opc_answers_sheet.specs.Changes.{owner_text}
use Rattle.opc_answers_sheet.proofs.changes.owners_text.Given as goal

abbrev pub invariant-loop-caller : goal.invariant-loop-caller
invariant-loop-caller l = string_bytes l.text ≡ flat_map (owner_text l.profiles) (take l.caller-index l.callers)

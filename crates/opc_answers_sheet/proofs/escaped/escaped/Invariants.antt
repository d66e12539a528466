use Rattle.std.proofs.Common.{◌≡◌, ◌++◌, IsUtf8, string_bytes}
use Rattle.std.specs.Str.Iter.{chars_rest}
use Rattle.opc_answers_sheet.specs.Escaped.{escaped}
use Rattle.opc_answers_sheet.proofs.escaped.escaped.Given as goal

abbrev pub invariant-loop-character : goal.invariant-loop-character
invariant-loop-character l = IsUtf8 (chars_rest l.character-iterator) × (string_bytes l.made ++ escaped (chars_rest l.character-iterator) ≡ escaped l.fn.text)

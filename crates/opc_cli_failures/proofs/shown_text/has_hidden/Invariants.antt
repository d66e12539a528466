use Rattle.std.proofs.Common.{◌≡◌, IsUtf8}
use Rattle.std.specs.Str.Iter.{chars_rest}
use Rattle.opc_cli_failures.specs.Shown.{has_hidden}
use Rattle.opc_cli_failures.proofs.shown_text.has_hidden.Given as goal

abbrev pub invariant-loop-character : goal.invariant-loop-character
invariant-loop-character l = IsUtf8 (chars_rest l.character-iterator) × (has_hidden (chars_rest l.character-iterator) ≡ has_hidden l.fn.text)

use Rattle.std.proofs.Common.{◌≡◌, IsUtf8}
use Rattle.std.specs.Str.Iter.{chars_rest}
use Rattle.opc_cli_failures.specs.Escaped.{has_unprintable}
use Rattle.opc_cli_failures.proofs.escaped.some_unprintable.Given as goal

abbrev pub invariant-loop-character : goal.invariant-loop-character
invariant-loop-character l = IsUtf8 (chars_rest l.character-iterator) × (has_unprintable (chars_rest l.character-iterator) ≡ has_unprintable l.fn.text)

use Rattle.std.proofs.Common.{◌≡◌, ◌++◌, IsUtf8, chars, string_bytes}
use Rattle.std.specs.Str.Iter.{chars_rest}
use Rattle.opc_check.specs.Words.{quoted_start, start_within}
use Rattle.opc_check.proofs.quoted.quoted_start.Given as goal

abbrev pub invariant-loop-character : goal.invariant-loop-character
invariant-loop-character l = IsUtf8 (chars_rest l.character-iterator)
    × (string_bytes l.text ++ start_within l.room (chars (chars_rest l.character-iterator)) ≡ quoted_start l.fn.field)

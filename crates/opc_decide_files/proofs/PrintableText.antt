-- Printable ASCII is UTF-8.
use Rattle.std.proofs.Common.{◌≡◌, ◌<◌, ◌/◌, ℕ, Bool, true, false, List, [], ◌∷◌, IsUtf8, arith, refl}
use Rattle.std.specs.Prelude.{◌&&◌, flat_map, if◌then◌else◌, nat_le}
use Rattle.std.specs.Str.{IsAscii}
use Rattle.std.proofs.lemmas.Bool.Decides.{nat_tests}
use Rattle.std.proofs.lemmas.Str.{IsAscii-append, IsUtf8-from_ascii}
use Rattle.std.proofs.lemmas.Str.Ascii.{IsAscii-cons, IsAscii-nil}
use Rattle.opc_http_log.specs.Escapes.{hex_digit, is_printable, printable}

second : (one other : Bool) → (one && other) ≡ true → other ≡ true
second true other h = h
second false other h = absurd (cc)

digit : (n : ℕ) → hex_digit n < 128
digit n = grind (arith, nat_tests)

tilde : (byte : ℕ) → nat_le byte 126 ≡ true → byte < 128
tilde byte h = grind (arith, nat_tests)

escaped : (high low : ℕ) → high < 128 → low < 128 → IsAscii (92 ∷ 120 ∷ high ∷ low ∷ [])
escaped high low h l =
    IsAscii-cons 92 (120 ∷ high ∷ low ∷ []) (omega arith)
    (IsAscii-cons 120 (high ∷ low ∷ []) (omega arith) (IsAscii-cons high (low ∷ []) h (IsAscii-cons low [] l IsAscii-nil)))

by_test : (byte : ℕ) (test : Bool) → is_printable byte ≡ test
    → IsAscii (if test then byte ∷ [] else 92 ∷ 120 ∷ hex_digit (byte / 16) ∷ hex_digit byte ∷ [])
by_test byte true is = IsAscii-cons byte [] (tilde byte (second (nat_le 32 byte) (nat_le byte 126) is)) IsAscii-nil
by_test byte false is = escaped (hex_digit (byte / 16)) (hex_digit byte) (digit (byte / 16)) (digit byte)

ascii : (bytes : List ℕ) → IsAscii (flat_map printable bytes)
ascii [] = IsAscii-nil
ascii (byte ∷ bytes) = IsAscii-append (printable byte) (flat_map printable bytes) (by_test byte (is_printable byte) refl) (ascii bytes)

pub printable_utf8 : (bytes : List ℕ) → IsUtf8 (flat_map printable bytes)
printable_utf8 bytes = IsUtf8-from_ascii (flat_map printable bytes) (ascii bytes)

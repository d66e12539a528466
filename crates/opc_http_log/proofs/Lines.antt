-- Lines of printable bytes.
use Rattle.std.proofs.Common.{◌≡◌, ℕ, List, [], ◌∷◌, ◌++◌, Bool, true, false, arith, refl}
use Rattle.std.specs.Prelude.{◌/◌, ◌&&◌, flat_map, if◌then◌else◌}
use Rattle.std.specs.List.{list_all}
use Rattle.std.proofs.lemmas.Bool.Decides.{nat_tests}
use Rattle.opc_http_log.specs.Escapes.{hex_digit, is_printable, printable}

both : (one other : Bool) → one ≡ true → other ≡ true → (one && other) ≡ true
both true other h k = k
both false other h k = h

first : (one other : Bool) → (one && other) ≡ true → one ≡ true
first true other h = refl
first false other h = h

second : (one other : Bool) → (one && other) ≡ true → other ≡ true
second true other h = h
second false other h = absurd (cc)

joined : (xs ys : List ℕ) → list_all is_printable xs ≡ true → list_all is_printable ys ≡ true → list_all is_printable (xs ++ ys) ≡ true
joined [] ys h k = k
joined (x ∷ xs) ys h k =
    both (is_printable x) (list_all is_printable (xs ++ ys)) (first (is_printable x) (list_all is_printable xs) h)
    (joined xs ys (second (is_printable x) (list_all is_printable xs) h) k)

digit : (n : ℕ) → is_printable (hex_digit n) ≡ true
digit n = grind (arith, nat_tests)

by_test : (byte : ℕ) (test : Bool) → is_printable byte ≡ test
    → list_all is_printable (if test then byte ∷ [] else 92 ∷ 120 ∷ hex_digit (byte / 16) ∷ hex_digit byte ∷ []) ≡ true
by_test byte true is = both (is_printable byte) true is refl
by_test byte false is = both (is_printable (hex_digit (byte / 16))) _ (digit (byte / 16)) (both (is_printable (hex_digit byte)) true (digit byte) refl)

pub all_printable : (bytes : List ℕ) → list_all is_printable (flat_map printable bytes) ≡ true
all_printable [] = refl
all_printable (byte ∷ bytes) =
    joined (printable byte) (flat_map printable bytes) (by_test byte (is_printable byte) refl) (all_printable bytes)

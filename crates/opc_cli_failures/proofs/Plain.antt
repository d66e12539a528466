-- Texts of printable ASCII.
use Rattle.std.proofs.Common.{◌≡◌, ◌<◌, ◌∙◌, ◌∷◌, ℕ, zero, suc, Bool, true, false, List, [], ap, arith, refl}
use Rattle.std.specs.Prelude.{◌&&◌, ◌||◌, ◌==◌, nat_le}
use Rattle.std.specs.Char.{is_control}
use Rattle.std.specs.List.{list_all, list_any}
use Rattle.std.specs.Str.{IsAscii}
use Rattle.std.proofs.lemmas.Bool.Decides.{nat_tests}
use Rattle.std.proofs.lemmas.Str.{chars-IsAscii}
use Rattle.opc_check.specs.Escape.{is_format, is_unprintable, is_within}
use Rattle.opc_cli_failures.specs.Escaped.{has_unprintable, is_plain}

neither : (a b : Bool) → a ≡ false → b ≡ false → (a || b) ≡ false
neither true b h k = h
neither false b h k = k

first : (a b : Bool) → (a && b) ≡ true → a ≡ true
first true b h = refl
first false b h = h

second : (a b : Bool) → (a && b) ≡ true → b ≡ true
second true b h = h
second false b h = absurd (cc)

other : (c k : ℕ) → c < k → (c == k) ≡ false
other c k lt = grind (arith, nat_tests, lt)

below : (low high c : ℕ) → c < low → is_within low high c ≡ false
below low high c lt =
    let none : nat_le low c ≡ false = grind (arith, nat_tests, lt) in
    ap (λ b. b && nat_le c high) none

no_format : (c : ℕ) → c < 127 → is_format c ≡ false
no_format c lt =
    neither _ _ (other c 0xAD (omega (arith, lt)))
    (neither _ _ (other c 0x61C (omega (arith, lt)))
    (neither _ _ (other c 0x180E (omega (arith, lt)))
    (neither _ _ (below 0x200B 0x200F c (omega (arith, lt)))
    (neither _ _ (below 0x2028 0x202E c (omega (arith, lt)))
    (neither _ _ (below 0x2060 0x206F c (omega (arith, lt)))
    (neither _ _ (other c 0xFEFF (omega (arith, lt)))
    (neither _ _ (below 0xFFF9 0xFFFB c (omega (arith, lt)))
    (below 0xE0000 0xE007F c (omega (arith, lt))))))))))

no_control : (c : ℕ) → 31 < c → c < 127 → is_control c ≡ false
no_control c low high = grind (arith, nat_tests, low, high)

low_of : (c : ℕ) → is_plain c ≡ true → 31 < c
low_of c h =
    let least : nat_le 32 c ≡ true = first (nat_le 32 c) (nat_le c 126) h in
    grind (arith, nat_tests, least)

high_of : (c : ℕ) → is_plain c ≡ true → c < 127
high_of c h =
    let most : nat_le c 126 ≡ true = second (nat_le 32 c) (nat_le c 126) h in
    grind (arith, nat_tests, most)

printable : (c : ℕ) → is_plain c ≡ true → is_unprintable c ≡ false
printable c h =
    let high = high_of c h in
    neither (is_control c) (is_format c) (no_control c (low_of c h) high) (no_format c high)

is_ascii : (text : List ℕ) → list_all is_plain text ≡ true → IsAscii text
is_ascii [] h i = omega arith
is_ascii (c ∷ text) h zero = omega (arith, high_of c (first (is_plain c) (list_all is_plain text) h))
is_ascii (c ∷ text) h (suc i) = is_ascii text (second (is_plain c) (list_all is_plain text) h) i

none : (cs : List ℕ) → list_all is_plain cs ≡ true → list_any is_unprintable cs ≡ false
none [] h = refl
none (c ∷ cs) h =
    neither (is_unprintable c) (list_any is_unprintable cs) (printable c (first (is_plain c) (list_all is_plain cs) h))
    (none cs (second (is_plain c) (list_all is_plain cs) h))

pub plain_printable : (text : List ℕ) → list_all is_plain text ≡ true → has_unprintable text ≡ false
plain_printable text h = ap (list_any is_unprintable) (chars-IsAscii text (is_ascii text h)) ∙ none text h

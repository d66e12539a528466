-- How far a name follows the sort key of a pattern, byte by byte.
use Rattle.std.specs.Prelude.{◌≡◌, ℕ, Bool, true, false, not, ◌&&◌, ◌||◌, ◌==◌, if◌then◌else◌, nat_lt, List, [], ◌∷◌}
use Rattle.std.specs.Cmp.Lexicographic.{slice_cmp}
use Rattle.std.specs.Ordering.{nat_cmp, is_lt}

-- a byte stands for a character: itself, or, if it is that of `%`, any but a period
abbrev pub stands_for : ℕ → ℕ → Bool
stands_for b c = if b == 128 then not (c == 46) else b == c

-- A text follows a key as far as both reach: each byte stands for the character there, up to a first `*` or `**`.
abbrev pub follows : List ℕ → List ℕ → Bool
follows [] text = true
follows (b ∷ key) [] = true
follows (b ∷ key) (c ∷ text) = nat_lt 128 b || (stands_for b c && follows key text)

-- of the bytes after one that does not stand for a character, the first that does, or that of `*`
abbrev pub byte_past : ℕ → ℕ → ℕ
byte_past b c = if nat_lt b c && nat_lt c 128 then c else (if nat_lt b 128 then 128 else 129)

-- a text follows no key from one on and before another
abbrev pub FollowsNone : List ℕ → List ℕ → List ℕ → Type 0
FollowsNone text from upto = (key : List ℕ) → is_lt (slice_cmp nat_cmp key from) ≡ false
    → is_lt (slice_cmp nat_cmp key upto) ≡ true → follows key text ≡ false

-- A text with a byte order mark at its start, and one without.
use Rattle.std.proofs.Common.{◌≡◌, ◌++◌, ℕ, Bool, List, [], ◌∷◌, arith, drop, false, refl, sym, true}
use lib.Utf8.{encode}
use Rattle.std.specs.Prelude.{◌&&◌, ◌==◌, ◌≢◌, encode_utf8}
use Rattle.std.proofs.lemmas.Bool.Decides.{nat_tests}
use Rattle.std.specs.Str.Pattern.{HasCharAt}
use Rattle.csv.specs.Reading.{is_bom, strip_bom}

-- the mark, as UTF-8 has it
stripped : (s rest : List ℕ) → s ≡ 239 ∷ 187 ∷ 191 ∷ rest → strip_bom s ≡ rest
unfolding strip_bom
stripped s rest is = rw is refl

pub with_mark : (s : List ℕ) (n : ℕ) → HasCharAt 65279 s 0 n → drop n s ≡ strip_bom s
unfolding encode
with_mark s n h = sym (stripped s (drop n s) h.split)

first : (one other : Bool) → (one && other) ≡ true → one ≡ true
first true other h = refl
first false other h = absurd (cc)

second : (one other : Bool) → (one && other) ≡ true → other ≡ true
second true other h = h
second false other h = absurd (cc)

is_equal : (m n : ℕ) → (m == n) ≡ true → m ≡ n
is_equal m n h = grind (arith, nat_tests, h)

marked : (a b c : ℕ) (rest : List ℕ) → is_bom a b c ≡ true → a ∷ b ∷ c ∷ rest ≡ 239 ∷ 187 ∷ 191 ∷ rest
marked a b c rest is =
    let two = first ((a == 239) && (b == 187)) (c == 191) is in
    rw (
      is_equal a 239 (first (a == 239) (b == 187) two),
      is_equal b 187 (second (a == 239) (b == 187) two),
      is_equal c 191 (second ((a == 239) && (b == 187)) (c == 191) is),
    ) refl

kept : (a b c : ℕ) (rest : List ℕ) (is_mark : Bool) → is_bom a b c ≡ is_mark
    → ((more : List ℕ) → a ∷ b ∷ c ∷ rest ≢ 239 ∷ 187 ∷ 191 ∷ more) → a ∷ b ∷ c ∷ rest ≡ strip_bom (a ∷ b ∷ c ∷ rest)
unfolding strip_bom
kept a b c rest true is lacks = absurd (lacks rest (marked a b c rest is))
kept a b c rest false is lacks = rw is refl

unmarked : (s : List ℕ) → ((more : List ℕ) → s ≢ 239 ∷ 187 ∷ 191 ∷ more) → s ≡ strip_bom s
unfolding strip_bom
unmarked [] lacks = refl
unmarked (a ∷ []) lacks = refl
unmarked (a ∷ b ∷ []) lacks = refl
unmarked (a ∷ b ∷ c ∷ rest) lacks = kept a b c rest (is_bom a b c) refl lacks

pub without_mark : (s : List ℕ) → ((rest : List ℕ) → s ≢ encode_utf8 65279 ++ rest) → s ≡ strip_bom s
unfolding encode
without_mark s lacks = unmarked s lacks

-- The digits of a digest are read as the digest.
use Rattle.std.proofs.Common.{◌≡◌, ℕ, zero, suc, ◌*◌, ◌/◌, ◌%◌, ◌^◌, ◌<◌, ◌==◌, Bool, true, false, ◌&&◌, List, [], ◌∷◌, ◌++◌, length, slice_index, Some, None, Ok, refl, ap, ◌∙◌, arith, cond}
use Rattle.std.proofs.lemmas.Bool.{eqb-true}
use Rattle.std.proofs.lemmas.Bool.Decides.{nat_tests}
use Rattle.std.proofs.lemmas.Slice.Eq.{bytes_eq-Decides}
use Rattle.std.specs.Int.{byte_at, bytes_high_first}
use Rattle.std.specs.List.{list_all}
use Rattle.hex.specs.Hex.{IsBytes, decode_sized, encode_lower, encode_with, lower_digits}
use Rattle.hex.proofs.HexLemmas.{decode_sized-encode_lower, length-encode_with}
use Rattle.sha2.specs.Sha256.{digest_bytes, sha256}
use Rattle.sha2.proofs.Facts256.{length-sha256}
use Rattle.opc_import.specs.Fields.{decoded, digest_of, is_lower_digit}
use Rattle.opc_reader_commands.specs.Stretches.{folded}
use Rattle.opc_answers_laws.specs.DigestLaws.{DigestsLogOn}

-- the bytes of a digest are bytes
appended : (xs ys : List ℕ) → IsBytes xs → IsBytes ys → IsBytes (xs ++ ys)
appended [] ys h k i = k i
appended (x ∷ xs) ys h k zero = h 0
appended (x ∷ xs) ys h k (suc i) = appended xs ys (λ j. h (suc j)) k i

byte_fits : (k n : ℕ) → byte_at k n < 256
byte_fits zero n = omega arith
byte_fits (suc k) n = let quotient = n / 256 ^ suc k in omega arith

high_first : (k n : ℕ) → IsBytes (bytes_high_first k n)
high_first zero n i = omega arith
high_first (suc k) n zero = byte_fits k n
high_first (suc k) n (suc i) = high_first k n i

digest_is_bytes : (h : List ℕ) (n : ℕ) → IsBytes (digest_bytes h n)
unfolding digest_bytes
digest_is_bytes h zero = λ i. omega arith
digest_is_bytes h (suc n) = appended (digest_bytes h n) _ (digest_is_bytes h n) (high_first 4 (slice_index h n))

sha_is_bytes : (m : List ℕ) → IsBytes (sha256 m)
unfolding sha256
sha_is_bytes m = digest_is_bytes _ 8

-- the sixteen digits are those of a row
abbrev all_lower : ℕ → Bool
all_lower zero = true
all_lower (suc d) = is_lower_digit (slice_index lower_digits d) && all_lower d

both_true : (a b : Bool) → a ≡ true → b ≡ true → (a && b) ≡ true
both_true a b h k = ap (λ t. t && b) h ∙ k

first_true : (a b : Bool) → (a && b) ≡ true → a ≡ true
first_true true b h = refl
first_true false b h = h

second_true : (a b : Bool) → (a && b) ≡ true → b ≡ true
second_true true b h = h
second_true false b h = cc h

lower_at : (n d : ℕ) → all_lower n ≡ true → d < n → is_lower_digit (slice_index lower_digits d) ≡ true
lower_at zero d h lt = absurd (omega (arith, lt))
lower_at (suc n) d h lt = go (d == n) refl (lower_at n d (second_true (is_lower_digit (slice_index lower_digits n)) (all_lower n) h))
  where
    go : (same : Bool) → (d == n) ≡ same → (d < n → is_lower_digit (slice_index lower_digits d) ≡ true)
        → is_lower_digit (slice_index lower_digits d) ≡ true
    go true e below =
        let same : d ≡ n = eqb-true d n e in
        ap (λ k. is_lower_digit (slice_index lower_digits k)) same ∙ first_true (is_lower_digit (slice_index lower_digits n)) (all_lower n) h
    go false e below = below (grind (arith, nat_tests, e, lt))

lower : (xs : List ℕ) → IsBytes xs → list_all is_lower_digit (encode_lower xs) ≡ true
unfolding encode_with
lower [] h = refl
lower (b ∷ rest) h =
    let fits : b < 256 = h 0 in
    both_true _ _ (lower_at 16 (b / 16) refl (omega (arith, fits)))
    (both_true _ _ (lower_at 16 (b % 16) refl (omega (arith, fits))) (lower rest (λ k. h (suc k))))

read_digits : (digits digest : List ℕ) → length digits ≡ 64 → list_all is_lower_digit digits ≡ true
    → decode_sized digits 32 ≡ Ok digest → digest_of digits ≡ Some (Some digest)
read_digits digits digest long low back = go (length digits == 0) (list_all is_lower_digit digits) refl refl
  where
    go : (empty all : Bool) → (length digits == 0) ≡ empty → list_all is_lower_digit digits ≡ all
        → cond empty (Some None) (cond all (decoded (decode_sized digits 32)) None) ≡ Some (Some digest)
    go true all e l = absurd (grind (arith, nat_tests, e, long))
    go false true e l = ap decoded back
    go false false e l = cc (l, low)

pub digests_log_on : DigestsLogOn
digests_log_on line =
    let digest = sha256 (folded line) in
    let bytes : IsBytes digest = sha_is_bytes (folded line) in
    let long : length (encode_lower digest) ≡ 64 = length-encode_with lower_digits digest ∙ ap (λ n. 2 * n) (length-sha256 (folded line)) in
    let back = decode_sized-encode_lower digest 32 (length-sha256 (folded line)) bytes in (
      encode_lower digest,
      refl,
      (digest, read_digits (encode_lower digest) digest long (lower digest bytes) back, (bytes_eq-Decides digest digest).1 refl),
    )

-- What a format hole of two digits writes.
use Rattle.std.proofs.Common.{◌≡◌, ℕ, ◌-◌, ◌^◌, false, [], ◌∷◌, ◌++◌, replicate, refl, ap, arith, suc, zero, append-nil}
use Rattle.std.specs.Fmt.{char_count, padded_integral, format_spec, decimal}
use Rattle.std.specs.List.{repeat}
use Rattle.std.specs.Char.{encode_utf8}
use Rattle.opc_names.specs.Spellings.{two_digits}

-- spaces in UTF-8 are bytes of 32
pub spaces : (n : ℕ) → repeat n (encode_utf8 32) ≡ replicate n 32
unfolding encode_utf8
spaces zero = refl
spaces (suc n) = ap (λ ts. 32 ∷ ts) (spaces n)

count_none : char_count [] ≡ 0
unfolding char_count
count_none = refl

pub padded_two : (n : ℕ) → padded_integral (format_spec 32 0 4 2 (2 ^ 64 - 1)) false [] (decimal n) ≡ two_digits n
unfolding padded_integral
padded_two n = rw (spaces, append-nil, count_none) (ap (λ k. replicate k 48 ++ decimal n) (omega arith))

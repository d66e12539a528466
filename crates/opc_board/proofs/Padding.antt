-- What a format hole with a width writes.
use Rattle.std.proofs.Common.{
  ◌≡◌,
  ℕ,
  ◌-◌,
  ◌^◌,
  ◌<◌,
  ◌≤◌,
  true,
  false,
  List,
  [],
  ◌∷◌,
  ◌++◌,
  length,
  replicate,
  refl,
  ap,
  arith,
  suc,
  ◌==◌,
  Result,
  Ok,
  Err,
  IfOk,
}
use Rattle.std.proofs.lemmas.Bool.Decides.{nat_tests}
use Rattle.std.specs.Fmt.{char_count, take_chars, padded, format_spec, is_char_start}
use Rattle.std.specs.Str.{IsAscii}
use Rattle.opc_names.proofs.Digits.{spaces}
use Rattle.opc_board.specs.Texts.{left}

starts : (b : ℕ) → b < 128 → is_char_start b ≡ true
starts b small = grind (arith, nat_tests)

rest_ascii : (b : ℕ) (text : List ℕ) → IsAscii (b ∷ text) → IsAscii text
rest_ascii b text ascii i = ascii (suc i)

count_ascii : (text : List ℕ) → IsAscii text → char_count text ≡ length text
unfolding char_count
count_ascii [] ascii = refl
count_ascii (b ∷ text) ascii = rw (starts b (ascii 0), count_ascii text (rest_ascii b text ascii)) (omega arith)

take_ascii : (n : ℕ) (text : List ℕ) → IsAscii text → length text ≤ n → take_chars n text ≡ text
unfolding take_chars
take_ascii n [] ascii short = refl
take_ascii n (b ∷ text) ascii short =
    let some : (n == 0) ≡ false = grind (arith, nat_tests) in
    rw (starts b (ascii 0), some) (ap (λ ts. b ∷ ts) (take_ascii (n - 1) text (rest_ascii b text ascii) (omega arith)))

pub padded_left : (w : ℕ) (text : List ℕ) → IsAscii text → length text ≤ 1000 → padded (format_spec 32 1 0 w (2 ^ 64 - 1)) text ≡ left w text
unfolding padded
padded_left w text ascii short = let whole : take_chars (2 ^ 64 - 1) text ≡ text =
    take_ascii (2 ^ 64 - 1) text ascii (omega arith) in
    rw (whole, count_ascii text ascii, spaces) (ap (λ n. text ++ replicate n 32) (omega arith))

pub if_ok : {A E : Type 0} (P Q : A → Type 0) → ((x : A) → P x → Q x) → (r : Result A E) → IfOk r P → IfOk r Q
if_ok P Q weaker (Ok x) holds = weaker x holds
if_ok P Q weaker (Err e) holds = tt

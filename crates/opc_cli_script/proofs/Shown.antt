-- What is shown of a bad line, whatever follows the word that is wrong.
use Rattle.std.proofs.Common.{
  ◌≡◌,
  ◌∙◌,
  ◌-◌,
  ℕ,
  suc,
  List,
  [],
  ◌∷◌,
  ◌++◌,
  Bool,
  true,
  false,
  ap,
  append_assoc,
  arith,
  drop,
  length,
  length-append,
  refl,
  sym,
  take,
}
use Rattle.std.specs.Prelude.{◌&&◌, ◌||◌, not}
use Rattle.std.specs.List.{list_all, prefix_len}
use Rattle.std.proofs.Math.Seq.{drop-append_seam, take-append_seam}
use Rattle.opc_cli_failures.specs.declared.bad_line.LineForm.{LineForm}
use Rattle.opc_cli_failures.specs.declared.bad_line.LineForm.TheVariants.{Now, Script}
use Rattle.opc_cli_failures.specs.declared.bad_line.Slip.{Slip}
use Rattle.opc_cli_failures.specs.declared.bad_line.Slip.TheVariants.{Console, NoMoment}
use Rattle.opc_cli_script.specs.Laws.{IsWord, SlipsShowNoPassword}
use Rattle.opc_cli_script.specs.Reading.{is_space}
use Rattle.opc_cli_script.specs.Slips.{after_spaces, hidden_after, is_in_word, past_moment, past_word, shown_start}

second : (one other : Bool) → (one && other) ≡ true → other ≡ true
second true other h = h
second false other h = absurd (cc)

-- how many pass a test, if all of some do and the next one does not
pass : (test : ℕ → Bool) (xs : List ℕ) (y : ℕ) (ys : List ℕ) → list_all test xs ≡ true → test y ≡ false
    → prefix_len test (xs ++ y ∷ ys) ≡ length xs
pass test [] y ys all ends = rw ends refl
pass test (x ∷ xs) y ys all ends = by (test x) refl (pass test xs y ys (second (test x) (list_all test xs) all) ends)
  where
    by : (is : Bool) → test x ≡ is → prefix_len test (xs ++ y ∷ ys) ≡ length xs → prefix_len test (x ∷ xs ++ y ∷ ys) ≡ suc (length xs)
    by true is rest = rw (is, rest) (omega arith)
    by false is rest = absurd (cc)

left_out : (xs : List ℕ) (y : ℕ) (ys : List ℕ) → list_all is_space xs ≡ true → is_space y ≡ false
    → after_spaces (xs ++ y ∷ ys) ≡ y ∷ ys
left_out xs y ys all ends = rw (pass is_space xs y ys all ends) (drop-append_seam xs (y ∷ ys))

-- what continues a word is no space
no_space : (space comma more : Bool) → (not (space || comma) && more) ≡ true → space ≡ false
no_space true comma more h = absurd (cc)
no_space false comma more h = refl

past : (before : List ℕ) (first : ℕ) (rest : List ℕ) (end : ℕ) (more : List ℕ) → list_all is_space before ≡ true
    → list_all is_in_word (first ∷ rest) ≡ true → is_in_word end ≡ false
    → past_word (before ++ (first ∷ rest ++ end ∷ more)) ≡ end ∷ more
past before first rest end more spaces word ends =
    let words : after_spaces (before ++ (first ∷ rest ++ end ∷ more)) ≡ first ∷ rest ++ end ∷ more =
    left_out before first (rest ++ end ∷ more) spaces (no_space (is_space first) _ (list_all is_in_word rest) word) in
    ap (λ t. drop (prefix_len is_in_word t) t) words
    ∙ ap (λ n. drop n (first ∷ rest ++ end ∷ more)) (pass is_in_word (first ∷ rest) end more word ends)
    ∙ drop-append_seam (first ∷ rest) (end ∷ more)

past_one : (text : List ℕ) (end : ℕ) (more : List ℕ) → IsWord text → is_in_word end ≡ false
    → past_word (text ++ end ∷ more) ≡ end ∷ more
past_one text end more w ends =
    ap (λ t. past_word (t ++ end ∷ more)) w.is
    ∙ ap past_word (append_assoc w.before (w.first ∷ w.rest) (end ∷ more))
    ∙ past w.before w.first w.rest end more w.spaces w.word ends

past_spaced : (text : List ℕ) (end : ℕ) (more : List ℕ) → IsWord text → is_in_word end ≡ false
    → past_word (32 ∷ text ++ end ∷ more) ≡ end ∷ more
past_spaced text end more w ends =
    ap (λ t. past_word (32 ∷ t ++ end ∷ more)) w.is
    ∙ ap (λ t. past_word (32 ∷ t)) (append_assoc w.before (w.first ∷ w.rest) (end ∷ more))
    ∙ past (32 ∷ w.before) w.first w.rest end more w.spaces w.word ends

-- a text up to an end that it has
cut : (text : List ℕ) (end : ℕ) (more hidden : List ℕ) → hidden ≡ end ∷ more
    → take (length (text ++ end ∷ more) - length hidden) (text ++ end ∷ more) ≡ text
cut text end more hidden is =
    let left : length (text ++ end ∷ more) - length (end ∷ more) ≡ length text = omega (arith, length-append text (end ∷ more)) in
    ap (λ (t : List ℕ). take (length (text ++ end ∷ more) - length t) (text ++ end ∷ more)) is
    ∙ ap (λ n. take n (text ++ end ∷ more)) left ∙ take-append_seam text (end ∷ more)

without_moment : (word more : List ℕ) (end : ℕ) → IsWord word → is_in_word end ≡ false
    → shown_start Script NoMoment (word ++ end ∷ more) ≡ word
without_moment word more end w ends = cut word end more _ (past_one word end more w ends)

untimed : (word more : List ℕ) (end : ℕ) → IsWord word → is_in_word end ≡ false
    → shown_start Now Console (word ++ end ∷ more) ≡ word
untimed word more end w ends = cut word end more _ (past_one word end more w ends)

at_console : (moment word more : List ℕ) (end : ℕ) → IsWord moment → IsWord word → is_in_word end ≡ false
    → shown_start Script Console (moment ++ 32 ∷ word ++ end ∷ more) ≡ moment ++ 32 ∷ word
at_console moment word more end m w ends =
    let split = append_assoc moment (32 ∷ word) (end ∷ more) in
    cut (moment ++ 32 ∷ word) end more _
    (ap (λ t. past_word (past_word t)) split ∙ ap past_word (past_one moment 32 (word ++ end ∷ more) m refl)
    ∙ past_spaced word end more w ends)

pub slips_show_no_password : SlipsShowNoPassword
slips_show_no_password = record {
  of_no_moment = λ word one other end last w ends lasts.
      without_moment word one end w ends ∙ sym (without_moment word other last w lasts);
  of_consoles = λ moment word one other end last m w ends lasts.
      at_console moment word one end m w ends ∙ sym (at_console moment word other last m w lasts);
  of_untimed = λ word one other end last w ends lasts.
      untimed word one end w ends ∙ sym (untimed word other last w lasts);
}

-- Escaped texts have no markup.
use Rattle.std.proofs.Common.{◌≡◌, ◌==◌, ◌∙◌, ℕ, Bool, true, false, List, [], ◌∷◌, ap₂, chars, codes, flat_map, if◌then◌else◌, refl}
use Rattle.std.specs.Prelude.{◌&&◌}
use Rattle.std.specs.List.{list_all}
use Rattle.std.proofs.lemmas.List.Folds.{list_all-append}
use Rattle.opc_answers_sheet.specs.Escaped.{escaped_character, is_plain}
use Rattle.opc_answers_sheet.specs.Laws.{EscapedTextHasNoMarkup}

either : (b : Bool) (xs ys : List ℕ) → list_all is_plain xs ≡ true → (b ≡ false → list_all is_plain ys ≡ true)
    → list_all is_plain (if b then xs else ys) ≡ true
either true xs ys one other = one
either false xs ys one other = other refl

one_plain : (c : ℕ) → list_all is_plain (escaped_character c) ≡ true
one_plain c =
    either (c == 38) (codes "&amp;") _ refl (λ amp.
    either (c == 60) (codes "&lt;") _ refl (λ less.
    either (c == 62) (codes "&gt;") _ refl (λ more.
    either (c == 34) (codes "&quot;") _ refl (λ quote.
    either (c == 39) (codes "&#39;") _ refl (λ mark. rw (less, more, quote, mark))))))

all_plain : (cs : List ℕ) → list_all is_plain (flat_map escaped_character cs) ≡ true
all_plain [] = refl
all_plain (c ∷ cs) = list_all-append is_plain (escaped_character c) (flat_map escaped_character cs)
    ∙ ap₂ (λ (p q : Bool). p && q) (one_plain c) (all_plain cs)

pub no_markup : EscapedTextHasNoMarkup
no_markup text = all_plain (chars text)

-- A letter at the end of a text.
use Rattle.std.proofs.Common.{◌≡◌, ◌∙◌, ◌-◌, ℕ, true, false, List, Option, Some, None, Bor, MatchOption, ap, arith, length, nat_eq, subst, sym, take}
use Rattle.std.specs.List.{ends_with}
use Rattle.std.specs.Str.{IsCharBoundary}
use Rattle.std.specs.Str.Pattern.{FindsTextSuffix, StripsSuffix}
use Rattle.std.proofs.lemmas.Str.Pattern.{ends_text}

pub stripped : (letter s : List ℕ) (r : Option (Bor (List ℕ))) → length letter ≡ 1
    → MatchOption r (FindsTextSuffix letter s None) (λ x. StripsSuffix (FindsTextSuffix letter) s x.now)
    → MatchOption r (ends_with nat_eq s letter ≡ false) (λ x. (ends_with nat_eq s letter ≡ true) × (x.now ≡ take (length s - 1) s))
stripped letter s None one h = sym (ends_text false letter s h)
stripped letter s (Some x) one h =
    let is : h.0 ≡ 1 = h.1.0 ∙ one in (
      sym (ends_text true letter s
          (h.0, h.1, omega (arith, h.3), subst (λ (n : ℕ). IsCharBoundary s (length s - n)) (sym h.1.0) h.1.2)),
      h.2 ∙ ap (λ (n : ℕ). take (length s - n) s) is,
    )

-- A `*` at the end of a text.
use Rattle.std.proofs.Common.{◌≡◌, ◌∙◌, ◌-◌, ℕ, true, false, List, Option, Some, None, Bor, MatchOption, ap, arith, codes, length, subst, sym, take}
use Rattle.std.specs.Str.{IsCharBoundary}
use Rattle.std.specs.Str.Pattern.{FindsTextSuffix, StripsSuffix}
use Rattle.std.proofs.lemmas.Str.Pattern.{ends_text}
use Rattle.opc_account.specs.Codes.{has_star}

pub stripped : (s : List ℕ) (r : Option (Bor (List ℕ)))
    → MatchOption r (FindsTextSuffix (codes "*") s None) (λ x. StripsSuffix (FindsTextSuffix (codes "*")) s x.now)
    → MatchOption r (has_star s ≡ false) (λ x. (has_star s ≡ true) × (x.now ≡ take (length s - 1) s))
stripped s None h = sym (ends_text false (codes "*") s h)
stripped s (Some x) h =
    let one : h.0 ≡ 1 = h.1.0 in (
      sym (ends_text true (codes "*") s
          (h.0, h.1, omega (arith, h.3), subst (λ (n : ℕ). IsCharBoundary s (length s - n)) (sym one) h.1.2)),
      h.2 ∙ ap (λ (n : ℕ). take (length s - n) s) one,
    )

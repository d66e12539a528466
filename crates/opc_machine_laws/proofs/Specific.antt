-- Which of two patterns is the more specific, and what patterns cover.
use Rattle.std.proofs.Common.{◌≡◌, ◌≢◌, ℕ, ◌+◌, List, [], ◌∷◌, Contains, refl, ap, arith, rules}
use Rattle.opc_names.specs.declared.token.Token.{Token}
use Rattle.opc_names.specs.declared.token.Token.TheVariants.{Literal, Percent, Star, Stars}
use Rattle.opc_names.specs.Order.{Earlier}
use Rattle.opc_machine_laws.specs.SpecificLaws.{IsNarrower, NarrowerComesFirst, PatternsCoverSo}

head_is : (a b : ℕ) → ◌≡◌ {A = List ℕ} (a ∷ []) (b ∷ []) → a ≡ b
head_is a b h = search (rules, h)

no_text : (c : ℕ) → Contains [] c → c ≢ 46
no_text c h e = absurd (omega (arith, h.1))

earlier : (t u : Token) → IsNarrower t u → Earlier t u
earlier (Literal a) (Literal b) h = absurd (h.other (ap Literal (head_is a b (h.within (a ∷ []) refl))))
earlier (Literal a) Percent h = tt
earlier (Literal a) Star h = tt
earlier (Literal a) Stars h = tt
earlier Percent (Literal b) h = let same : 47 + b ≡ b =
    head_is (47 + b) b (h.within ((47 + b) ∷ []) (47 + b, refl, λ e. absurd (omega (arith, e)))) in
    absurd (omega (arith, same))
earlier Percent Percent h = absurd (h.other refl)
earlier Percent Star h = tt
earlier Percent Stars h = tt
earlier Star (Literal b) h = let same = h.within [] no_text in absurd (search (rules, same))
earlier Star Percent h = let one = h.within [] no_text in let same = one.1 in absurd (search (rules, same))
earlier Star Star h = absurd (h.other refl)
earlier Star Stars h = tt
earlier Stars (Literal b) h = let same = h.within [] tt in absurd (search (rules, same))
earlier Stars Percent h = let one = h.within [] tt in let same = one.1 in absurd (search (rules, same))
earlier Stars Star h = absurd (h.within (46 ∷ []) tt 46 (0, omega arith, refl) refl)
earlier Stars Stars h = absurd (h.other refl)

pub narrower_first : NarrowerComesFirst
narrower_first common rest others t u h = (common, t ∷ rest, u ∷ others, refl, refl, earlier t u h)

pub cover_so : PatternsCoverSo
cover_so = record {
  these = (refl, (refl, (refl, (refl, (refl, (refl, (refl, (refl, (refl, (refl, (refl, (refl, (refl, tt)))))))))))));
  not_those = (refl, (refl, (refl, (refl, (refl, (refl, (refl, (refl, (refl, (refl, (refl, tt)))))))))));
}

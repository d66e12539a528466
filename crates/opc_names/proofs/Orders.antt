-- `Before` is a strict total order.
use Rattle.std.proofs.Common.{◌≡◌, ◌⊎◌, Bool, true, false, List, [], ◌∷◌, inl, inr, refl, sym, ap, subst, arith, rules}
use Rattle.std.proofs.lemmas.Bool.{cases_order}
use Rattle.opc_names.specs.declared.token.Token.{Token}
use Rattle.opc_names.specs.declared.token.Token.TheVariants.{Literal, Percent, Star, Stars}
use Rattle.opc_names.specs.Walk.{BeforeAfter}
use Rattle.opc_names.specs.Laws.{NoneIsBeforeItself, BeforeIsTransitive, OneIsBefore}
use Rattle.opc_names.specs.Order.{Earlier, is_open}
use Rattle.opc_names.specs.Patterns.{tokens}
use Rattle.opc_names.proofs.Keys.{before_after, earlier_itself}
use Rattle.opc_names.proofs.KeysDiffer.{same_text}

earlier_trans : (t u v : Token) → Earlier t u → Earlier u v → Earlier t v
earlier_trans (Literal a) (Literal b) (Literal c) h k = omega (arith, h, k)
earlier_trans (Literal a) u Percent h k = tt
earlier_trans (Literal a) u Star h k = tt
earlier_trans (Literal a) u Stars h k = tt
earlier_trans Percent u Star h k = tt
earlier_trans Percent u Stars h k = tt
earlier_trans Star u Stars h k = tt
earlier_trans t u v h k = search rules

after_itself : (opened : Bool) (p : List Token) → BeforeAfter opened p p → ⊥
after_itself opened [] h = h
after_itself opened (t ∷ p) (inl h) = earlier_itself t h
after_itself opened (t ∷ p) (inr h) = after_itself (is_open t) p h.1

after_trans : (opened : Bool) (p q r : List Token) → BeforeAfter opened p q → BeforeAfter opened q r → BeforeAfter opened p r
after_trans opened [] [] r h k = absurd h
after_trans opened [] (u ∷ q) [] h k = cc
after_trans opened [] (u ∷ q) (v ∷ r) h k = h
after_trans opened (t ∷ p) [] [] h k = absurd k
after_trans opened (t ∷ p) [] (v ∷ r) h k = cc
after_trans opened (t ∷ p) (u ∷ q) [] h k = k
after_trans opened (t ∷ p) (u ∷ q) (v ∷ r) (inl h) (inl k) = inl (earlier_trans t u v h k)
after_trans opened (t ∷ p) (u ∷ q) (v ∷ r) (inl h) (inr k) = inl (subst (λ x. Earlier t x) k.0 h)
after_trans opened (t ∷ p) (u ∷ q) (v ∷ r) (inr h) (inl k) = inl (subst (λ x. Earlier x v) (sym h.0) k)
after_trans opened (t ∷ p) (u ∷ q) (v ∷ r) (inr h) (inr k) =
    let e = h.0 in
    let f = k.0 in
    inr (cc, after_trans (is_open t) p q r h.1 (subst (λ x. BeforeAfter (is_open x) q r) (sym h.0) k.1))

pub before_itself : NoneIsBeforeItself
before_itself p h = after_itself false p ((before_after p p).0 h)

pub before_trans : BeforeIsTransitive
before_trans p q r h k = (before_after p r).1 (after_trans false p q r ((before_after p q).0 h) ((before_after q r).0 k))

-- two tokens
abbrev Compared : Token → Token → Type 0
Compared t u = Earlier t u ⊎ (Earlier u t ⊎ (t ≡ u))

compared : (t u : Token) → Compared t u
compared (Literal a) (Literal b) =
    elim (cases_order a b) [
      | inl h ↦ inr (inr (ap (λ c. Literal c) h))
      | inr (inl h) ↦ inl h
      | inr (inr h) ↦ inr (inl h)
    ]
compared (Literal a) Percent = inl tt
compared (Literal a) Star = inl tt
compared (Literal a) Stars = inl tt
compared Percent (Literal b) = inr (inl tt)
compared Percent Percent = inr (inr refl)
compared Percent Star = inl tt
compared Percent Stars = inl tt
compared Star (Literal b) = inr (inl tt)
compared Star Percent = inr (inl tt)
compared Star Star = inr (inr refl)
compared Star Stars = inl tt
compared Stars (Literal b) = inr (inl tt)
compared Stars Percent = inr (inl tt)
compared Stars Star = inr (inl tt)
compared Stars Stars = inr (inr refl)

after_total : (opened : Bool) (p q : List Token) → BeforeAfter opened p q ⊎ (BeforeAfter opened q p ⊎ (p ≡ q))
after_total opened [] [] = inr (inr refl)
after_total true [] (u ∷ q) = inr (inl refl)
after_total false [] (u ∷ q) = inl refl
after_total true (t ∷ p) [] = inl refl
after_total false (t ∷ p) [] = inr (inl refl)
after_total opened (t ∷ p) (u ∷ q) =
    elim (compared t u) [
      | inl h ↦ inl (inl h)
      | inr (inl h) ↦ inr (inl (inl h))
      | inr (inr h) ↦
          elim (after_total (is_open t) p q) [
            | inl k ↦ inl (inr (h, k))
            | inr (inl k) ↦ inr (inl (inr (sym h, subst (λ x. BeforeAfter (is_open x) q p) h k)))
            | inr (inr k) ↦ inr (inr cc)
          ]
    ]

pub one_is_before : OneIsBefore
one_is_before p q a b differ =
    elim (after_total false (tokens p) (tokens q)) [
      | inl h ↦ inl ((before_after (tokens p) (tokens q)).1 h)
      | inr (inl h) ↦ inr ((before_after (tokens q) (tokens p)).1 h)
      | inr (inr h) ↦ absurd (differ (same_text p q h))
    ]

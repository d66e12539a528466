-- The heads of patterns that cover a name.
use Rattle.std.proofs.Common.{◌≡◌, ◌≢◌, ℕ, ◌<◌, Bool, true, false, List, [], ◌∷◌, ◌++◌, map, length, refl, ap, arith, ◌⊎◌, inl, inr, ⊎_elim}
use Rattle.std.specs.List.{AllByRecursion}
use Rattle.std.proofs.lemmas.Bool.Decides.{eqb_tells}
use Rattle.opc_names.specs.declared.token.Token.{Token}
use Rattle.opc_names.specs.declared.token.Token.TheVariants.{Literal, Percent, Star, Stars}
use Rattle.opc_names.specs.Names.{qualifiers}
use Rattle.opc_names.specs.Laws.{HeadsArePrefixes, LongerHeadsComeFirst}
use Rattle.opc_names.specs.Order.{Before, head, begins_with_stars}
use Rattle.opc_names.specs.Patterns.{tokens, Matches, EndsInStar, Covers}
use Rattle.opc_names.specs.Walk.{BeforeAfter}
use Rattle.opc_names.proofs.Keys.{before_after}
use Rattle.opc_names.proofs.Spelled.{spell, spell_name, spelled_pattern, spelled_name, NoPeriod, IsPart, pattern_parts}
use Rattle.opc_names.proofs.Stars.{BeginsOther, covers_none, covers_part}

abbrev IsPrefix : List ℕ → List ℕ → Type 0
IsPrefix xs ys = (rest : List ℕ) × (ys ≡ xs ++ rest)

head_character : (c : ℕ) (ts : List Token) → c ≢ 46 → head (Literal c ∷ ts) ≡ c ∷ head ts
head_character c ts h = elim (eqb_tells c 46) [ inl k ↦ absurd (h k.1) | inr k ↦ rw k.0 refl ]

head_period : (ts : List Token) → begins_with_stars ts ≡ false → head (Literal 46 ∷ ts) ≡ 46 ∷ head ts
head_period ts h = rw h refl

-- a qualifier begins with `**`, or not
begins : (q : List Token) → ((rest : List Token) × (q ≡ Stars ∷ rest)) ⊎ BeginsOther q
begins [] = inr tt
begins (Literal c ∷ q) = inr tt
begins (Percent ∷ q) = inr tt
begins (Star ∷ q) = inr tt
begins (Stars ∷ q) = inl (q, refl)

no_stars : (q t : List Token) → q ≢ [] → BeginsOther q → begins_with_stars (q ++ t) ≡ false
no_stars [] t h b = absurd (h refl)
no_stars (Literal c ∷ q) t h b = refl
no_stars (Percent ∷ q) t h b = refl
no_stars (Star ∷ q) t h b = refl
no_stars (Stars ∷ q) t h b = absurd b

prefix_through : (q : List Token) (s : List ℕ) (t : List Token) (r : List ℕ) → NoPeriod q → Matches q s → EndsInStar q
    ⊎ IsPrefix (head t) r → IsPrefix (head (q ++ t)) (s ++ r)
prefix_through [] [] t r n m k = ⊎_elim (λ e. absurd e) (λ e. e) k
prefix_through [] (c ∷ s) t r n m k = absurd m
prefix_through (Literal a ∷ q) [] t r n m k = absurd m
prefix_through (Literal a ∷ q) (c ∷ s) t r n m k =
    let rest = prefix_through q s t r n.1 m.1 k in
    let e = rest.1 in
    let f = m.0 in
    rw (head_character a (q ++ t) n.0) (rest.0, cc)
prefix_through (Percent ∷ q) s t r n m k = (s ++ r, refl)
prefix_through (Star ∷ q) s t r n m k = (s ++ r, refl)
prefix_through (Stars ∷ q) s t r n m k = (s ++ r, refl)

-- the head after the first qualifier, if that is not `**`
prefix_after : (q : List Token) (p : List (List Token)) (r : List (List ℕ)) → IsPart q
    → ((r : List (List ℕ)) → Covers p r → IsPrefix (head (spell p)) (spell_name r)) → Covers (q ∷ p) r → BeginsOther q
    → IsPrefix (head (spell (q ∷ p))) (spell_name r)
prefix_after q p [] h more c k = absurd (covers_none q p k c)
prefix_after q p (s ∷ r) h more c k =
    let part = (covers_part q p s r k).0 c in
    let rest = prefix_through q s (spell p) (spell_name r) h.1 part.0 (⊎_elim (λ e. inl e.1) (λ e. inr (more r e)) part.1) in
    rw (head_period (q ++ spell p) (no_stars q (spell p) h.0 k)) (rest.0, ap (λ x. 46 ∷ x) rest.1)

heads_prefix : (p : List (List Token)) (r : List (List ℕ)) → AllByRecursion IsPart p → Covers p r → IsPrefix (head (spell p)) (spell_name r)
heads_prefix [] [] h c = ([], refl)
heads_prefix [] (s ∷ r) h c = absurd c
heads_prefix (q ∷ p) r h c =
    elim (begins q) [
      | inl k ↦ rw k.1 (spell_name r, refl)
      | inr k ↦ prefix_after q p r h.0 (λ s d. heads_prefix p s h.1 d) c k
    ]

head_of_stars : (ts : List Token) → begins_with_stars ts ≡ true → head ts ≡ []
head_of_stars [] h = refl
head_of_stars (Literal c ∷ ts) h = cc
head_of_stars (Percent ∷ ts) h = refl
head_of_stars (Star ∷ ts) h = refl
head_of_stars (Stars ∷ ts) h = refl

pub heads_are_prefixes : HeadsArePrefixes
heads_are_prefixes p r h c =
    let prefix = heads_prefix (map tokens (qualifiers p)) (qualifiers r) (pattern_parts p h) c in
    by_stars (begins_with_stars (tokens p)) refl (rw (spelled_pattern p, spelled_name r) at prefix)
  where
    by_stars : (b : Bool) → begins_with_stars (tokens p) ≡ b → IsPrefix (head (Literal 46 ∷ tokens p)) (46 ∷ r) → IsPrefix (head (tokens p)) r
    by_stars true e f = rw (head_of_stars (tokens p) e) (r, refl)
    by_stars false e f = let g = rw (head_period (tokens p) e) at f in (g.0, (let k = g.1 in cc))

-- two qualifiers along one of a name
module _ (A B : Type 0) where
  along : (q u : List Token) (s : List ℕ) (p v : List (List Token)) (opened : Bool) → NoPeriod q → NoPeriod u
      → Matches q s → Matches u s → EndsInStar q ⊎ A → EndsInStar u ⊎ B
      → (A → B → length (head (spell v)) < length (head (spell p)) → (o : Bool) → BeforeAfter o (spell p) (spell v))
      → length (head (u ++ spell v)) < length (head (q ++ spell p)) → BeforeAfter opened (q ++ spell p) (u ++ spell v)
  along [] [] [] p v opened n m c d (inl a) b next less = absurd a
  along [] [] [] p v opened n m c d (inr a) (inl b) next less = absurd b
  along [] [] [] p v opened n m c d (inr a) (inr b) next less = next a b less opened
  along [] [] (x ∷ s) p v opened n m c d a b next less = absurd c
  along [] (Literal y ∷ u) [] p v opened n m c d a b next less = absurd d
  along [] (Percent ∷ u) [] p v opened n m c d a b next less = absurd d
  along [] (Star ∷ u) [] [] v opened n m c d a b next less = absurd (omega (arith, less))
  along [] (Star ∷ u) [] (q ∷ p) v opened n m c d a b next less = inl tt
  along [] (Stars ∷ u) [] p v opened n m c d a b next less = absurd d
  along [] (t ∷ u) (x ∷ s) p v opened n m c d a b next less = absurd c
  along (Literal x ∷ q) u [] p v opened n m c d a b next less = absurd c
  along (Literal x ∷ q) [] (y ∷ s) p v opened n m c d a b next less = absurd d
  along (Literal x ∷ q) (Literal z ∷ u) (y ∷ s) p v opened n m c d a b next less =
      let e = c.0 in
      let f = d.0 in
      let shorter = rw (head_character z (u ++ spell v) m.0, head_character x (q ++ spell p) n.0) at less in
      inr (cc, along q u s p v false n.1 m.1 c.1 d.1 a b next (omega (arith, shorter)))
  along (Literal x ∷ q) (Percent ∷ u) (y ∷ s) p v opened n m c d a b next less = inl tt
  along (Literal x ∷ q) (Star ∷ u) (y ∷ s) p v opened n m c d a b next less = inl tt
  along (Literal x ∷ q) (Stars ∷ u) (y ∷ s) p v opened n m c d a b next less = absurd d
  along (Percent ∷ q) u s p v opened n m c d a b next less = absurd (omega (arith, less))
  along (Star ∷ q) u s p v opened n m c d a b next less = absurd (omega (arith, less))
  along (Stars ∷ q) u s p v opened n m c d a b next less = absurd (omega (arith, less))

before_stars : (q t w : List Token) → q ≢ [] → BeginsOther q → BeforeAfter false (q ++ t) (Stars ∷ w)
before_stars [] t w h b = absurd (h refl)
before_stars (Literal c ∷ q) t w h b = inl tt
before_stars (Percent ∷ q) t w h b = inl tt
before_stars (Star ∷ q) t w h b = inl tt
before_stars (Stars ∷ q) t w h b = absurd b

-- two patterns after a first qualifier, if that of the first is not `**`
order_after : (x : List Token) (p q : List (List Token)) (r : List (List ℕ)) (opened : Bool) → IsPart x
    → AllByRecursion IsPart q → Covers (x ∷ p) r → Covers q r → length (head (spell q)) < length (head (spell (x ∷ p)))
    → BeginsOther x
    → ((q : List (List Token)) (r : List (List ℕ)) → AllByRecursion IsPart q → Covers p r → Covers q r
    → length (head (spell q)) < length (head (spell p)) → (o : Bool) → BeforeAfter o (spell p) (spell q))
    → BeforeAfter opened (spell (x ∷ p)) (spell q)
order_after x p q [] opened hx hq c d less k more = absurd (covers_none x p k c)
order_after x p [] (s ∷ r) opened hx hq c d less k more = absurd d
order_after x p (y ∷ q) (s ∷ r) opened hx hq c d less k more =
    elim (begins y) [
      | inl m ↦ rw m.1 (inr (refl, before_stars x (spell p) (m.0 ++ spell q) hx.0 k))
      | inr m ↦
          (let left = (covers_part x p s r k).0 c in
          let right = (covers_part y q s r m).0 d in
          let l = rw (head_period (x ++ spell p) (no_stars x (spell p) hx.0 k), head_period (y ++ spell q) (no_stars y (spell q) hq.0.0 m)) at less in
          inr (
            refl,
            along (Covers p r) (Covers q r) x y s p q false hx.1 hq.0.1 left.0 right.0
                (⊎_elim (λ e. inl e.1) (λ e. inr e) left.1) (⊎_elim (λ e. inl e.1) (λ e. inr e) right.1)
                (λ a b shorter o. more q r hq.1 a b shorter o) (omega (arith, l)),
          ))
    ]

heads_order : (p q : List (List Token)) (r : List (List ℕ)) → AllByRecursion IsPart p → AllByRecursion IsPart q
    → Covers p r → Covers q r → length (head (spell q)) < length (head (spell p)) → (opened : Bool)
    → BeforeAfter opened (spell p) (spell q)
heads_order [] q r hp hq c d less opened = absurd (omega (arith, less))
heads_order (x ∷ p) q r hp hq c d less opened =
    elim (begins x) [
      | inl k ↦ (let l = rw k.1 at less in absurd (omega (arith, l)))
      | inr k ↦ order_after x p q r opened hp.0 hq c d less k (λ v s hv a b l o. heads_order p v s hp.1 hv a b l o)
    ]

pub longer_heads_come_first : LongerHeadsComeFirst
longer_heads_come_first p q r hp hq c d less = by_stars (begins_with_stars (tokens p)) refl (begins_with_stars (tokens q)) refl
  where
    unperiod : BeforeAfter false (Literal 46 ∷ tokens p) (Literal 46 ∷ tokens q) → Before (tokens p) (tokens q)
    unperiod (inl e) = absurd (omega (arith, e))
    unperiod (inr e) = (before_after (tokens p) (tokens q)).1 e.1

    ordered : length (head (Literal 46 ∷ tokens q)) < length (head (Literal 46 ∷ tokens p)) → Before (tokens p) (tokens q)
    ordered l =
        let shorter : length (head (spell (map tokens (qualifiers q)))) < length
        (head (spell (map tokens (qualifiers p)))) = rw (spelled_pattern p, spelled_pattern q) l in
        unperiod (rw (spelled_pattern p, spelled_pattern q) at
        (heads_order (map tokens (qualifiers p)) (map tokens (qualifiers q)) (qualifiers r) (pattern_parts p hp)
        (pattern_parts q hq) c d shorter false))

    by_stars : (b : Bool) → begins_with_stars (tokens p) ≡ b → (e : Bool) → begins_with_stars (tokens q) ≡ e → Before (tokens p) (tokens q)
    by_stars true f e g = (let l = rw (head_of_stars (tokens p) f) at less in absurd (omega (arith, l)))
    by_stars false f true g = ordered (rw (head_period (tokens p) f, g) (omega arith))
    by_stars false f false g = ordered (rw (head_period (tokens p) f, head_period (tokens q) g) (omega (arith, less)))

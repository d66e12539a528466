-- The relation of covering and the function that computes it.
use Rattle.std.proofs.Common.{
  ◌≡◌,
  ℕ,
  ◌↔◌,
  ◌==◌,
  ◌&&◌,
  ◌||◌,
  Bool,
  true,
  false,
  IsTrue,
  List,
  [],
  ◌∷◌,
  ◌++◌,
  map,
  refl,
  arith,
  ap,
  sym,
  ◌⊎◌,
  inl,
  inr,
  ⊎_elim,
  subst,
}
use Rattle.std.specs.List.{list_any}
use Rattle.std.proofs.lemmas.Bool.{false≢true}
use Rattle.std.proofs.lemmas.Bool.Decides.{nat_tests}
use Rattle.opc_names.specs.declared.token.Token.{Token}
use Rattle.opc_names.specs.declared.token.Token.TheVariants.{Literal, Percent, Star, Stars}
use Rattle.opc_names.specs.Names.{qualifiers}
use Rattle.opc_names.specs.Patterns.{tokens, covers_text, CoversText, Matches, EndsInStar, Covers, matches, ends_in_star, is_empty, suffixes, covers}
use Rattle.opc_names.specs.Laws.{CoversComputes}

and_is : {P Q : Type 0} (a b : Bool) → IsTrue a ↔ P → IsTrue b ↔ Q → IsTrue (a && b) ↔ (P × Q)
and_is true b p q = (λ h. (p.0 refl, q.0 h), λ h. q.1 h.1)
and_is false b p q = (λ h. absurd (false≢true h), λ h. absurd (false≢true (p.1 h.0)))

or_is : {P Q : Type 0} (a b : Bool) → IsTrue a ↔ P → IsTrue b ↔ Q → IsTrue (a || b) ↔ (P ⊎ Q)
or_is true b p q = (λ h. inl (p.0 refl), λ h. refl)
or_is false b p q = (λ h. inr (q.0 h), λ h. ⊎_elim (λ x. absurd (false≢true (p.1 x))) (λ y. q.1 y) h)

same_character : (a c : ℕ) → IsTrue (a == c) ↔ (a ≡ c)
same_character a c = grind (arith, nat_tests)

pub matches_is : (q : List Token) (s : List ℕ) → IsTrue (matches q s) ↔ Matches q s
matches_is [] [] = (λ h. tt, λ h. refl)
matches_is [] (c ∷ s) = (λ h. false≢true h, λ h. absurd h)
matches_is (Literal a ∷ q) [] = (λ h. false≢true h, λ h. absurd h)
matches_is (Literal a ∷ q) (c ∷ s) = and_is (a == c) (matches q s) (same_character a c) (matches_is q s)
matches_is (Percent ∷ q) [] = (λ h. false≢true h, λ h. absurd h)
matches_is (Percent ∷ q) (c ∷ s) = matches_is q s
matches_is (Star ∷ q) s = (λ h. tt, λ h. refl)
matches_is (Stars ∷ q) s = (λ h. false≢true h, λ h. absurd h)

pub ends_in_star_is : (q : List Token) → IsTrue (ends_in_star q) ↔ EndsInStar q
ends_in_star_is [] = (λ h. false≢true h, λ h. absurd h)
ends_in_star_is (Literal c ∷ q) = ends_in_star_is q
ends_in_star_is (Percent ∷ q) = ends_in_star_is q
ends_in_star_is (Star ∷ []) = (λ h. refl, λ h. refl)
ends_in_star_is (Star ∷ (t ∷ q)) = (λ h. absurd (false≢true h), λ h. cc)
ends_in_star_is (Stars ∷ q) = (λ h. false≢true h, λ h. absurd h)

is_empty_is : (p : List (List Token)) → IsTrue (is_empty p) ↔ (p ≡ [])
is_empty_is [] = (λ h. refl, λ h. refl)
is_empty_is (q ∷ p) = (λ h. absurd (false≢true h), λ h. cc)

abbrev CoversSuffix : List (List Token) → List (List ℕ) → Type 0
CoversSuffix p r = (skipped rest : List (List ℕ)) × (r ≡ skipped ++ rest) × Covers p rest

suffix_more : (p : List (List Token)) (s : List ℕ) (r : List (List ℕ)) → (Covers p (s ∷ r) ⊎ CoversSuffix p r) ↔ CoversSuffix p (s ∷ r)
suffix_more p s r = (λ h. ⊎_elim (λ k. ([], s ∷ r, refl, k)) (λ m. (s ∷ m.0, m.1, ap (λ t. s ∷ t) m.2, m.3)) h, λ h. from_skipped h.0 h.1 h.2 h.3)
  where
    from_skipped : (skipped rest : List (List ℕ)) → s ∷ r ≡ skipped ++ rest → Covers p rest → Covers p (s ∷ r) ⊎ CoversSuffix p r
    from_skipped [] rest e k = inl (subst (λ x. Covers p x) (sym e) k)
    from_skipped (x ∷ xs) rest e k = inr (xs, rest, cc, k)

suffix_whole : (p : List (List Token)) → (Covers p [] ⊎ ⊥) ↔ CoversSuffix p []
suffix_whole p = (λ h. ⊎_elim (λ k. ([], [], refl, k)) (λ k. absurd k) h, λ h. from_skipped h.0 h.1 h.2 h.3)
  where
    from_skipped : (skipped rest : List (List ℕ)) → [] ≡ skipped ++ rest → Covers p rest → Covers p [] ⊎ ⊥
    from_skipped [] rest e k = inl (subst (λ x. Covers p x) (sym e) k)
    from_skipped (x ∷ xs) rest e k = cc

through : {A B C : Type 0} → A ↔ B → B ↔ C → A ↔ C
through f g = (λ h. g.0 (f.0 h), λ h. f.1 (g.1 h))

-- some suffix of a name is covered if and only if the name splits before one that is
some_suffix : (p : List (List Token)) → ((r : List (List ℕ)) → IsTrue (covers p r) ↔ Covers p r) → (r : List (List ℕ))
    → IsTrue (list_any (covers p) (suffixes r)) ↔ CoversSuffix p r
some_suffix p is [] = through (or_is (covers p []) false (is []) (λ h. false≢true h, λ h. absurd h)) (suffix_whole p)
some_suffix p is (s ∷ r) = through (or_is (covers p (s ∷ r)) (list_any (covers p) (suffixes r)) (is (s ∷ r)) (some_suffix p is r)) (suffix_more p s r)

-- after a qualifier other than `**`
one_part : (q : List Token) (p : List (List Token)) (s : List ℕ) (r : List (List ℕ)) → IsTrue (covers p r) ↔ Covers p r
    → IsTrue (matches q s && (is_empty p && ends_in_star q || covers p r)) ↔ (Matches q s
    × (((p ≡ []) × EndsInStar q) ⊎ Covers p r))
one_part q p s r rest =
    and_is (matches q s) _ (matches_is q s)
    (or_is (is_empty p && ends_in_star q) (covers p r)
    (and_is (is_empty p) (ends_in_star q) (is_empty_is p) (ends_in_star_is q)) rest)

pub covers_computes : CoversComputes
covers_computes [] [] = (λ h. tt, λ h. refl)
covers_computes [] (s ∷ r) = (λ h. false≢true h, λ h. absurd h)
covers_computes ([] ∷ p) [] = (λ h. false≢true h, λ h. absurd h)
covers_computes ([] ∷ p) (s ∷ r) = one_part [] p s r (covers_computes p r)
covers_computes ((Literal c ∷ q) ∷ p) [] = (λ h. false≢true h, λ h. absurd h)
covers_computes ((Literal c ∷ q) ∷ p) (s ∷ r) = one_part (Literal c ∷ q) p s r (covers_computes p r)
covers_computes ((Percent ∷ q) ∷ p) [] = (λ h. false≢true h, λ h. absurd h)
covers_computes ((Percent ∷ q) ∷ p) (s ∷ r) = one_part (Percent ∷ q) p s r (covers_computes p r)
covers_computes ((Star ∷ q) ∷ p) [] = (λ h. false≢true h, λ h. absurd h)
covers_computes ((Star ∷ q) ∷ p) (s ∷ r) = one_part (Star ∷ q) p s r (covers_computes p r)
covers_computes ((Stars ∷ q) ∷ p) r = some_suffix p (covers_computes p) r

pub text_computes : (b : Bool) (p r : List ℕ) → b ≡ covers_text p r → IsTrue b ↔ CoversText p r
text_computes b p r e = rw e (covers_computes (map tokens (qualifiers p)) (qualifiers r))

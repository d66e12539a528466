-- A name that a pattern covers follows the pattern's sort key.
use Rattle.std.proofs.Common.{
  ◌≡◌,
  ◌≢◌,
  ℕ,
  ◌<◌,
  Bool,
  true,
  false,
  not,
  ◌&&◌,
  ◌||◌,
  ◌==◌,
  if◌then◌else◌,
  nat_lt,
  List,
  [],
  ◌∷◌,
  ◌++◌,
  map,
  refl,
  ap,
  ◌∙◌,
  arith,
  ◌⊎◌,
  inl,
  inr,
  ⊎_elim,
  append_assoc,
}
use Rattle.std.specs.List.{AllByRecursion, onto_first}
use Rattle.std.proofs.lemmas.Bool.Decides.{eqb_tells, nat_tests}
use Rattle.opc_names.specs.declared.token.Token.{Token}
use Rattle.opc_names.specs.declared.token.Token.TheVariants.{Literal, Percent, Star, Stars}
use Rattle.opc_names.specs.Names.{qualifiers, pattern_rule}
use Rattle.opc_names.specs.Order.{ends_open, is_open, key_byte}
use Rattle.opc_names.specs.Patterns.{tokens, Matches, EndsInStar, Covers}
use Rattle.opc_names.proofs.Faults.{name_ascii}
use Rattle.opc_names.proofs.Keys.{AreSmall, small_tokens}
use Rattle.opc_names.proofs.Spelled.{spell, spell_name, spelled_pattern, spelled_name, NoPeriod, IsPart, pattern_parts}
use Rattle.opc_names.proofs.Stars.{BeginsOther, covers_none, covers_part}
use Rattle.opc_names_keys.specs.Follows.{follows, stands_for}
use Rattle.opc_names_keys.specs.Laws.{CoveredNamesFollow}

-- ---- along the tokens of a pattern

abbrev stands : Token → ℕ → Bool
stands (Literal a) c = a == c
stands Percent c = not (c == 46)
stands Star c = true
stands Stars c = true

-- whether a text follows tokens, up to a first `*` or `**`
abbrev walks : List Token → List ℕ → Bool
walks [] text = true
walks (t ∷ ts) [] = true
walks (t ∷ ts) (c ∷ text) = is_open t || (stands t c && walks ts text)

both : (a b : Bool) → a ≡ true → b ≡ true → (a && b) ≡ true
both a b h k = rw (h, k) refl

open_star : (ts : List Token) (text : List ℕ) → walks (Star ∷ ts) text ≡ true
open_star ts [] = refl
open_star ts (c ∷ text) = refl

open_stars : (ts : List Token) (text : List ℕ) → walks (Stars ∷ ts) text ≡ true
open_stars ts [] = refl
open_stars ts (c ∷ text) = refl

-- no period among the characters of a qualifier
abbrev Plain : List ℕ → Type 0
Plain s = AllByRecursion (λ c. c ≢ 46) s

plain_first : (c : ℕ) (parts : List (List ℕ)) → c ≢ 46 → AllByRecursion Plain parts → AllByRecursion Plain (onto_first c parts)
plain_first c [] h k = ((h, tt), tt)
plain_first c (s ∷ parts) h k = ((h, k.0), k.1)

plain_parts : (text : List ℕ) → AllByRecursion Plain (qualifiers text)
plain_parts [] = (tt, tt)
plain_parts (c ∷ cs) =
    elim (eqb_tells c 46) [
      | inl k ↦ rw k.0 (tt, plain_parts cs)
      | inr k ↦ rw k.0 (plain_first c (qualifiers cs) k.1 (plain_parts cs))
    ]

same : (a c : ℕ) → a ≡ c → (a == c) ≡ true
same a c h = elim (eqb_tells a c) [ inl k ↦ k.0 | inr k ↦ absurd (k.1 h) ]

other : (c : ℕ) → c ≢ 46 → not (c == 46) ≡ true
other c h = elim (eqb_tells c 46) [ inl k ↦ absurd (h k.1) | inr k ↦ ap not k.0 ]

-- through a qualifier that matches
through : (q : List Token) (s : List ℕ) (ts : List Token) (text : List ℕ) → NoPeriod q → Plain s → Matches q s
    → EndsInStar q ⊎ (walks ts text ≡ true) → walks (q ++ ts) (s ++ text) ≡ true
through [] [] ts text n plain m k = ⊎_elim (λ e. absurd e) (λ e. e) k
through [] (c ∷ s) ts text n plain m k = absurd m
through (Literal a ∷ q) [] ts text n plain m k = absurd m
through (Literal a ∷ q) (c ∷ s) ts text n plain m k =
    both (a == c) (walks (q ++ ts) (s ++ text)) (same a c m.0) (through q s ts text n.1 plain.1 m.1 k)
through (Percent ∷ q) [] ts text n plain m k = absurd m
through (Percent ∷ q) (c ∷ s) ts text n plain m k =
    both (not (c == 46)) (walks (q ++ ts) (s ++ text)) (other c plain.0) (through q s ts text n plain.1 m k)
through (Star ∷ q) s ts text n plain m k = open_star (q ++ ts) (s ++ text)
through (Stars ∷ q) s ts text n plain m k = absurd m

-- a qualifier begins with `**`, or not
begins : (q : List Token) → ((rest : List Token) × (q ≡ Stars ∷ rest)) ⊎ BeginsOther q
begins [] = inr tt
begins (Literal c ∷ q) = inr tt
begins (Percent ∷ q) = inr tt
begins (Star ∷ q) = inr tt
begins (Stars ∷ q) = inl (q, refl)

-- from qualifier to qualifier, with a period after the name
abbrev ended : List (List ℕ) → List ℕ
ended r = spell_name r ++ 46 ∷ []

stars_walk : (q : List Token) (p : List (List Token)) (r : List (List ℕ)) → walks (spell ((Stars ∷ q) ∷ p)) (ended r) ≡ true
stars_walk q p [] = refl
stars_walk q p (s ∷ r) = open_stars (q ++ spell p) ((s ++ spell_name r) ++ 46 ∷ [])

part_walks : (q : List Token) (p : List (List Token)) (r : List (List ℕ)) → IsPart q → AllByRecursion Plain r
    → ((r : List (List ℕ)) → AllByRecursion Plain r → Covers p r → walks (spell p) (ended r) ≡ true)
    → Covers (q ∷ p) r → BeginsOther q → walks (spell (q ∷ p)) (ended r) ≡ true
part_walks q p [] h plain more c k = absurd (covers_none q p k c)
part_walks q p (s ∷ r) h plain more c k =
    let part = (covers_part q p s r k).0 c in
    ap (walks (q ++ spell p)) (append_assoc s (spell_name r) (46 ∷ []))
    ∙ through q s (spell p) (ended r) h.1 plain.0 part.0 (⊎_elim (λ e. inl e.1) (λ e. inr (more r plain.1 e)) part.1)

covered_walks : (p : List (List Token)) (r : List (List ℕ)) → AllByRecursion IsPart p → AllByRecursion Plain r → Covers p r
    → walks (spell p) (ended r) ≡ true
covered_walks [] r h plain c = refl
covered_walks (q ∷ p) r h plain c =
    elim (begins q) [
      | inl k ↦ rw k.1 (stars_walk k.0 p r)
      | inr k ↦ part_walks q p r h.0 plain (λ s n d. covered_walks p s h.1 n d) c k
    ]

-- ---- along the bytes of a sort key

-- after the bytes of its tokens a key has nothing more, or one byte that is above all
abbrev IsEnd : List ℕ → Type 0
IsEnd tail = (tail ≡ []) ⊎ (tail ≡ 255 ∷ [])

end_follows : (text : List ℕ) → follows (255 ∷ []) text ≡ true
end_follows [] = refl
end_follows (c ∷ text) = refl

after_tokens : (tail text : List ℕ) → IsEnd tail → follows tail text ≡ true
after_tokens tail text (inl e) = rw e refl
after_tokens tail text (inr e) = rw e (end_follows text)

or_right : (a b : Bool) → b ≡ true → (a || b) ≡ true
or_right true b h = refl
or_right false b h = h

literal_stands : (a c : ℕ) → a < 128 → (a == c) ≡ true → stands_for a c ≡ true
literal_stands a c small h = grind (arith, nat_tests)

key_follows : (ts : List Token) (tail text : List ℕ) → AreSmall ts → IsEnd tail → walks ts text ≡ true
    → follows (map key_byte ts ++ tail) text ≡ true
key_follows [] tail text small end h = after_tokens tail text end
key_follows (t ∷ ts) tail [] small end h = refl
key_follows (Literal a ∷ ts) tail (c ∷ text) small end h =
    let part = parts (a == c) (walks ts text) h in
    or_right (nat_lt 128 a) _ (both _ _ (literal_stands a c small.0 part.0) (key_follows ts tail text small.1 end part.1))
  where
    parts : (x y : Bool) → (x && y) ≡ true → (x ≡ true) × (y ≡ true)
    parts true y h = (refl, h)
    parts false y h = (h, absurd cc)
key_follows (Percent ∷ ts) tail (c ∷ text) small end h =
    let part = parts (not (c == 46)) (walks ts text) h in
    both _ _ part.0 (key_follows ts tail text small.1 end part.1)
  where
    parts : (x y : Bool) → (x && y) ≡ true → (x ≡ true) × (y ≡ true)
    parts true y h = (refl, h)
    parts false y h = (h, absurd cc)
key_follows (Star ∷ ts) tail (c ∷ text) small end h = refl
key_follows (Stars ∷ ts) tail (c ∷ text) small end h = refl

end_of : (b : Bool) → IsEnd (if b then 255 ∷ [] else [])
end_of true = inr refl
end_of false = inl refl

pub covered_names_follow : CoveredNamesFollow
covered_names_follow p r h c =
    let walked = covered_walks (map tokens (qualifiers p)) (qualifiers r) (pattern_parts p h) (plain_parts r) c in
    let along : walks (Literal 46 ∷ tokens p) (46 ∷ (r ++ 46 ∷ [])) ≡ true = rw (spelled_pattern p, spelled_name r) at walked in
    key_follows (tokens p) _ (r ++ 46 ∷ []) (small_tokens p (name_ascii pattern_rule p h)) (end_of (ends_open (tokens p))) along

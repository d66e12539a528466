-- The order of patterns, step by step, and that of sort keys.
use Rattle.std.proofs.Common.{
  ◌≡◌,
  ◌≢◌,
  ℕ,
  ◌<◌,
  Bool,
  true,
  false,
  if◌then◌else◌,
  ◌==◌,
  ◌&&◌,
  List,
  [],
  ◌∷◌,
  ◌++◌,
  map,
  length,
  ◌≤◌,
  ◌+◌,
  ◌↔◌,
  ◌⊎◌,
  inl,
  inr,
  ⊎_elim,
  refl,
  sym,
  ap,
  ◌∙◌,
  arith,
  suc,
  lit<,
}
use Rattle.std.specs.Cmp.Lexicographic.{slice_cmp}
use Rattle.std.specs.Ordering.{nat_cmp}
use Rattle.std.specs.declared.cmp.Ordering.TheVariants.{Less, Equal, Greater}
use Rattle.std.specs.Str.{IsAscii}
use Rattle.std.specs.Cmp.{nat_cmp_is}
use Rattle.std.proofs.lemmas.Bool.Decides.{nat_tests, eqb_tells}
use Rattle.opc_names.specs.declared.token.Token.{Token}
use Rattle.opc_names.specs.declared.token.Token.TheVariants.{Literal, Percent, Star, Stars}
use Rattle.opc_names.specs.Laws.{KeysAreInOrder, KeysAreShort}
use Rattle.opc_names.specs.Names.{pattern_rule}
use Rattle.opc_names.specs.Patterns.{tokens, token_of}
use Rattle.opc_names.proofs.Faults.{name_ascii, name_short}
use Rattle.opc_names.specs.Walk.{BeforeAfter, sort_key_after}
use Rattle.opc_names.specs.Order.{Earlier, EndsOpen, Decides, Before, key_byte, is_open, ends_open, sort_key}

-- a character below 128
abbrev pub IsSmall : Token → Type 0
IsSmall (Literal c) = c < 128
IsSmall Percent = Unit {0}
IsSmall Star = Unit {0}
IsSmall Stars = Unit {0}

abbrev pub AreSmall : List Token → Type 0
AreSmall [] = Unit {0}
AreSmall (t ∷ ts) = IsSmall t × AreSmall ts

less_cmp : (x y : ℕ) → x < y → nat_cmp x y ≡ Less
less_cmp x y h = sym (nat_cmp_is x y Less h)

more_cmp : (x y : ℕ) → y < x → nat_cmp x y ≡ Greater
more_cmp x y h = sym (nat_cmp_is x y Greater h)

same_cmp : (x : ℕ) → nat_cmp x x ≡ Equal
same_cmp x = sym (nat_cmp_is x x Equal refl)

pub small_byte : (t : Token) → IsSmall t → key_byte t < 255
small_byte (Literal c) h = omega (arith, h)
small_byte Percent h = lit< tt
small_byte Star h = lit< tt
small_byte Stars h = lit< tt

-- two tokens and their bytes
abbrev pub Ranked : Token → Token → Type 0
Ranked t u = (Earlier t u × (key_byte t < key_byte u)) ⊎ ((t ≡ u) ⊎ ((Earlier t u → ⊥) × (t ≢ u) × (key_byte u < key_byte t)))

abbrev pub later : (t u : Token) → (Earlier t u → ⊥) → (t ≢ u) → key_byte u < key_byte t → Ranked t u
later t u a b c = inr (inr (a, b, c))

pub ranked : (t u : Token) → IsSmall t → IsSmall u → Ranked t u
ranked (Literal a) (Literal b) h k = grind (arith, nat_tests, eqb_tells a b)
ranked (Literal a) Percent h k = inl (tt, h)
ranked (Literal a) Star h k = inl (tt, omega (arith, h))
ranked (Literal a) Stars h k = inl (tt, omega (arith, h))
ranked Percent (Literal b) h k = later Percent (Literal b) (λ e. e) (λ e. cc) k
ranked Percent Percent h k = inr (inl refl)
ranked Percent Star h k = inl (tt, lit< tt)
ranked Percent Stars h k = inl (tt, lit< tt)
ranked Star (Literal b) h k = later Star (Literal b) (λ e. e) (λ e. cc) (omega (arith, k))
ranked Star Percent h k = later Star Percent (λ e. e) (λ e. cc) (lit< tt)
ranked Star Star h k = inr (inl refl)
ranked Star Stars h k = inl (tt, lit< tt)
ranked Stars (Literal b) h k = later Stars (Literal b) (λ e. e) (λ e. cc) (omega (arith, k))
ranked Stars Percent h k = later Stars Percent (λ e. e) (λ e. cc) (lit< tt)
ranked Stars Star h k = later Stars Star (λ e. e) (λ e. cc) (lit< tt)
ranked Stars Stars h k = inr (inl refl)

pub earlier_itself : (t : Token) → Earlier t t → ⊥
earlier_itself (Literal a) h = omega (arith, h)
earlier_itself Percent h = h
earlier_itself Star h = h
earlier_itself Stars h = h

pub keys_after : (opened : Bool) (p q : List Token) → AreSmall p → AreSmall q
    → (slice_cmp nat_cmp (sort_key_after opened p) (sort_key_after opened q) ≡ Less) ↔ BeforeAfter opened p q
keys_after true [] [] a b = (λ e. cc, λ e. absurd e)
keys_after false [] [] a b = (λ e. cc, λ e. absurd e)
keys_after true [] (u ∷ q) a b = rw (more_cmp 255 (key_byte u) (small_byte u b.0)) (λ e. cc, λ e. cc)
keys_after false [] (u ∷ q) a b = (λ e. refl, λ e. refl)
keys_after true (t ∷ p) [] a b = rw (less_cmp (key_byte t) 255 (small_byte t a.0)) (λ e. refl, λ e. refl)
keys_after false (t ∷ p) [] a b = (λ e. cc, λ e. cc)
keys_after opened (t ∷ p) (u ∷ q) a b =
    elim (ranked t u a.0 b.0) [
      | inl e ↦ rw (less_cmp (key_byte t) (key_byte u) e.1) (λ _. inl e.0, λ _. refl)
      | inr (inl e) ↦
          (let rest = keys_after (is_open t) p q a.1 b.1 in
          rw (← e, same_cmp) (λ k. inr (refl, rest.0 k), λ k. ⊎_elim (λ h. absurd (earlier_itself t h)) (λ h. rest.1 h.1) k))
      | inr (inr e) ↦ rw (more_cmp (key_byte t) (key_byte u) e.2) (λ k. cc, λ k. ⊎_elim (λ h. absurd (e.0 h)) (λ h. absurd (e.1 h.0)) k)
    ]

-- whether a list ends in `*` or `**`; `opened` states it for what is before it
abbrev ends : Bool → List Token → Bool
ends opened [] = opened
ends opened (t ∷ ts) = ends (is_open t) ts

abbrev DecidesBy : Bool → List Token → List Token → Type 0
DecidesBy opened [] [] = ⊥
DecidesBy opened [] (u ∷ q) = opened ≡ false
DecidesBy opened (t ∷ p) [] = opened ≡ true
DecidesBy opened (t ∷ p) (u ∷ q) = Earlier t u

ends-push : (opened : Bool) (prefix : List Token) (t : Token) → ends opened (prefix ++ t ∷ []) ≡ is_open t
ends-push opened [] t = refl
ends-push opened (u ∷ prefix) t = ends-push (is_open u) prefix t

ends_from : (ts : List Token) → EndsOpen ts → ends false ts ≡ true
ends_from ts (prefix, inl e) = ap (ends false) e ∙ ends-push false prefix Star
ends_from ts (prefix, inr e) = ap (ends false) e ∙ ends-push false prefix Stars

longer : (t : Token) (ts : List Token) → EndsOpen ts → EndsOpen (t ∷ ts)
longer t ts (prefix, inl e) = (t ∷ prefix, inl (ap (λ s. t ∷ s) e))
longer t ts (prefix, inr e) = (t ∷ prefix, inr (ap (λ s. t ∷ s) e))

from_ends : (t : Token) (ts : List Token) → ends (is_open t) ts ≡ true → EndsOpen (t ∷ ts)
from_ends (Literal c) [] h = cc
from_ends Percent [] h = cc
from_ends Star [] h = ([], inl refl)
from_ends Stars [] h = ([], inr refl)
from_ends t (u ∷ ts) h = longer t (u ∷ ts) (from_ends u ts h)

open_end : (ts : List Token) → ends false ts ≡ true → EndsOpen ts
open_end [] h = cc
open_end (t ∷ ts) h = from_ends t ts h

closed_end : (ts : List Token) → (EndsOpen ts → ⊥) → (b : Bool) → ends false ts ≡ b → b ≡ false
closed_end ts h true e = absurd (h (open_end ts e))
closed_end ts h false e = refl

decided : (common p q : List Token) → Decides common p q → DecidesBy (ends false common) p q
decided common [] [] h = h
decided common [] (u ∷ q) h = closed_end common h (ends false common) refl
decided common (t ∷ p) [] h = ends_from common h
decided common (t ∷ p) (u ∷ q) h = h

decides : (common p q : List Token) → DecidesBy (ends false common) p q → Decides common p q
decides common [] [] h = h
decides common [] (u ∷ q) h = λ k. let e = ends_from common k in cc
decides common (t ∷ p) [] h = open_end common h
decides common (t ∷ p) (u ∷ q) h = h

walk_to : (opened : Bool) (common p q : List Token) → DecidesBy (ends opened common) p q → BeforeAfter opened (common ++ p) (common ++ q)
walk_to opened [] [] [] h = h
walk_to opened [] [] (u ∷ q) h = h
walk_to opened [] (t ∷ p) [] h = h
walk_to opened [] (t ∷ p) (u ∷ q) h = inl h
walk_to opened (t ∷ common) p q h = inr (refl, walk_to (is_open t) common p q h)

walk_from : (opened : Bool) (p q : List Token) → BeforeAfter opened p q → (common p' q' : List Token)
    × (p ≡ common ++ p') × (q ≡ common ++ q') × DecidesBy (ends opened common) p' q'
walk_from opened [] [] h = absurd h
walk_from opened [] (u ∷ q) h = ([], [], u ∷ q, refl, refl, h)
walk_from opened (t ∷ p) [] h = ([], t ∷ p, [], refl, refl, h)
walk_from opened (t ∷ p) (u ∷ q) (inl e) = ([], t ∷ p, u ∷ q, refl, refl, e)
walk_from opened (t ∷ p) (u ∷ q) (inr e) =
    let r = walk_from (is_open t) p q e.1 in
    (t ∷ r.0, r.1, r.2, ap (λ s. t ∷ s) r.3, (let f = e.0 in let g = r.4 in cc), r.5)

pub before_after : (p q : List Token) → Before p q ↔ BeforeAfter false p q
before_after p q = (
  λ h. rw (h.3, h.4) (walk_to false h.0 h.1 h.2 (decided h.0 h.1 h.2 h.5)),
  λ h. let r = walk_from false p q h in (r.0, r.1, r.2, r.3, r.4, decides r.0 r.1 r.2 r.5),
)

small_of : (c : ℕ) → c < 128 → IsSmall (token_of c)
small_of c h =
    elim (c == 42) as (λ b. IsSmall (if b then Star else (if c == 37 then Percent else Literal c))) [
      | true ↦ tt
      | false ↦ elim (c == 37) as (λ b. IsSmall (if b then Percent else Literal c)) [ true ↦ tt | false ↦ h ]
    ]

pub small_tokens : (text : List ℕ) → IsAscii text → AreSmall (tokens text)
small_tokens [] a = tt
small_tokens (c ∷ []) a = (small_of c (a 0), tt)
small_tokens (c ∷ (d ∷ cs)) a =
    elim ((c == 42) && (d == 42)) as (λ b. AreSmall (if b then Stars ∷ tokens cs else token_of c ∷ tokens (d ∷ cs))) [
      | true ↦ (tt, small_tokens cs (λ i. a (suc (suc i))))
      | false ↦ (small_of c (a 0), small_tokens (d ∷ cs) (λ i. a (suc i)))
    ]

-- a sort key as it is made from the first token to the last
key_after : (opened : Bool) (ts : List Token) → sort_key_after opened ts ≡ map key_byte ts ++ (if ends opened ts then 255 ∷ [] else [])
key_after opened [] = refl
key_after opened (t ∷ ts) = ap (λ bytes. key_byte t ∷ bytes) (key_after (is_open t) ts)

ends_after : (t : Token) (ts : List Token) → ends (is_open t) ts ≡ ends_open (t ∷ ts)
ends_after t [] = refl
ends_after t (u ∷ ts) = ends_after u ts

pub key_is : (text : List ℕ) → sort_key_after false (tokens text) ≡ sort_key text
key_is text = key_after false (tokens text) ∙ ap (λ b. map key_byte (tokens text) ++ (if b then 255 ∷ [] else [])) (ends_is (tokens text))
  where
    ends_is : (ts : List Token) → ends false ts ≡ ends_open ts
    ends_is [] = refl
    ends_is (t ∷ ts) = ends_after t ts

length-key : (opened : Bool) (ts : List Token) → length (sort_key_after opened ts) ≤ length ts + 1
length-key true [] = omega arith
length-key false [] = omega arith
length-key opened (t ∷ ts) = omega (arith, length-key (is_open t) ts)

length-tokens : (text : List ℕ) → length (tokens text) ≤ length text
length-tokens [] = omega arith
length-tokens (c ∷ []) = omega arith
length-tokens (c ∷ (d ∷ cs)) =
    elim ((c == 42) && (d == 42)) as (λ b. length (if b then Stars ∷ tokens cs else token_of c ∷ tokens (d ∷ cs)) ≤ length (c ∷ (d ∷ cs))) [
      | true ↦ omega (arith, length-tokens cs)
      | false ↦ omega (arith, length-tokens (d ∷ cs))
    ]

pub keys_are_short : KeysAreShort
keys_are_short p h = rw (← key_is p) (omega (arith, length-key false (tokens p), length-tokens p, name_short pattern_rule p h))

pub keys_are_in_order : KeysAreInOrder
keys_are_in_order p q a b =
    let keys = keys_after false (tokens p) (tokens q) (small_tokens p (name_ascii pattern_rule p a)) (small_tokens q (name_ascii pattern_rule q b)) in
    let order = before_after (tokens p) (tokens q) in
    rw (← key_is p, ← key_is q) (λ h. order.1 (keys.0 h), λ h. keys.1 (order.0 h))

-- Patterns and names as lists of qualifiers, each after a period.
use Rattle.std.proofs.Common.{
  ◌≡◌,
  ◌≢◌,
  ℕ,
  ◌+◌,
  ◌==◌,
  ◌&&◌,
  cond,
  if◌then◌else◌,
  true,
  false,
  List,
  [],
  ◌∷◌,
  ◌++◌,
  map,
  length,
  refl,
  sym,
  ap,
  ◌∙◌,
  arith,
  inl,
  inr,
  Some,
  None,
}
use Rattle.std.specs.List.{onto_first, join_with_byte, AllByRecursion}
use Rattle.std.proofs.lemmas.List.{append-nil}
use Rattle.std.proofs.lemmas.List.Splits.{join_with_byte-slice_split}
use Rattle.std.proofs.lemmas.Bool.Decides.{eqb_tells}
use Rattle.opc_names.specs.declared.rule.Alphabet.TheVariants.{Generic}
use Rattle.opc_names.specs.declared.token.Token.{Token}
use Rattle.opc_names.specs.declared.token.Token.TheVariants.{Literal, Percent, Star, Stars}
use Rattle.opc_names.specs.Names.{qualifiers, is_qualifier, bad_part, name_fault, pattern_rule}
use Rattle.opc_names.specs.Patterns.{tokens, token_of}
use Rattle.opc_names.proofs.Faults.{name_passes}
use Rattle.opc_names.proofs.Parts.{qualifiers_some}
use Rattle.opc_names.proofs.Stars.{tokens-other}

abbrev pub spell : List (List Token) → List Token
spell [] = []
spell (q ∷ p) = Literal 46 ∷ (q ++ spell p)

abbrev pub spell_name : List (List ℕ) → List ℕ
spell_name [] = []
spell_name (s ∷ r) = 46 ∷ (s ++ spell_name r)

tokens_period : (x ys : List ℕ) → tokens (x ++ 46 ∷ ys) ≡ tokens x ++ Literal 46 ∷ tokens ys
tokens_period [] ys = tokens-other 46 ys (λ e. absurd (omega (arith, e)))
tokens_period (c ∷ []) ys =
    elim (c == 42) as (λ b. (if b && false then Stars ∷ tokens ys else (token_of c ∷ tokens (46 ∷ ys))) ≡ token_of c ∷ Literal 46 ∷ tokens ys) [
      | true ↦ ap (λ ts. token_of c ∷ ts) (tokens_period [] ys)
      | false ↦ ap (λ ts. token_of c ∷ ts) (tokens_period [] ys)
    ]
tokens_period (c ∷ (d ∷ x)) ys =
    elim ((c == 42) && (d == 42)) as (λ b.
    (if b then Stars ∷ tokens (x ++ 46 ∷ ys) else (token_of c ∷ tokens ((d ∷ x) ++ 46 ∷ ys))) ≡ (if b then Stars
    ∷ tokens x else (token_of c ∷ tokens (d ∷ x))) ++ Literal 46 ∷ tokens ys) [
      | true ↦ ap (λ ts. Stars ∷ ts) (tokens_period x ys)
      | false ↦ ap (λ ts. token_of c ∷ ts) (tokens_period (d ∷ x) ys)
    ]

tokens_join : (x : List ℕ) (parts : List (List ℕ)) → Literal 46 ∷ tokens (join_with_byte 46 (x ∷ parts)) ≡ spell (map tokens (x ∷ parts))
tokens_join x [] = ap (λ ts. Literal 46 ∷ ts) (sym (append-nil (tokens x)))
tokens_join x (y ∷ parts) = ap (λ ts. Literal 46 ∷ ts) (tokens_period x (join_with_byte 46 (y ∷ parts)) ∙ ap (λ ts. tokens x ++ ts) (tokens_join y parts))

name_join : (x : List ℕ) (parts : List (List ℕ)) → 46 ∷ join_with_byte 46 (x ∷ parts) ≡ spell_name (x ∷ parts)
name_join x [] = ap (λ cs. 46 ∷ cs) (sym (append-nil x))
name_join x (y ∷ parts) = ap (λ cs. 46 ∷ (x ++ cs)) (name_join y parts)

of_tokens : (parts : List (List ℕ)) → (parts ≡ [] → ⊥) → Literal 46 ∷ tokens (join_with_byte 46 parts) ≡ spell (map tokens parts)
of_tokens [] h = absurd (h refl)
of_tokens (x ∷ parts) h = tokens_join x parts

of_name : (parts : List (List ℕ)) → (parts ≡ [] → ⊥) → 46 ∷ join_with_byte 46 parts ≡ spell_name parts
of_name [] h = absurd (h refl)
of_name (x ∷ parts) h = name_join x parts

pub spelled_pattern : (text : List ℕ) → spell (map tokens (qualifiers text)) ≡ Literal 46 ∷ tokens text
spelled_pattern text = sym (of_tokens (qualifiers text) (qualifiers_some text)) ∙ ap (λ cs. Literal 46 ∷ tokens cs) (join_with_byte-slice_split 46 text)

pub spelled_name : (text : List ℕ) → spell_name (qualifiers text) ≡ 46 ∷ text
spelled_name text = sym (of_name (qualifiers text) (qualifiers_some text)) ∙ ap (λ cs. 46 ∷ cs) (join_with_byte-slice_split 46 text)

-- no period among tokens, and none among characters
abbrev pub NoPeriod : List Token → Type 0
NoPeriod [] = Unit {0}
NoPeriod (Literal c ∷ q) = (c ≢ 46) × NoPeriod q
NoPeriod (Percent ∷ q) = NoPeriod q
NoPeriod (Star ∷ q) = NoPeriod q
NoPeriod (Stars ∷ q) = NoPeriod q

abbrev pub IsPart : List Token → Type 0
IsPart q = (q ≢ []) × NoPeriod q

abbrev Plain : List ℕ → Type 0
Plain q = AllByRecursion (λ c. c ≢ 46) q

plain_first : (c : ℕ) (parts : List (List ℕ)) → c ≢ 46 → AllByRecursion Plain parts → AllByRecursion Plain (onto_first c parts)
plain_first c [] h k = ((h, tt), tt)
plain_first c (q ∷ parts) h k = ((h, k.0), k.1)

plain_parts : (text : List ℕ) → AllByRecursion Plain (qualifiers text)
plain_parts [] = (tt, tt)
plain_parts (c ∷ cs) =
    elim (eqb_tells c 46) [
      | inl k ↦ rw k.0 (tt, plain_parts cs)
      | inr k ↦ rw k.0 (plain_first c (qualifiers cs) k.1 (plain_parts cs))
    ]

no_period_one : (c : ℕ) (q : List Token) → c ≢ 46 → NoPeriod q → NoPeriod (token_of c ∷ q)
no_period_one c q h k =
    elim (c == 42) as (λ b. NoPeriod ((if b then Star else (if c == 37 then Percent else Literal c)) ∷ q)) [
      | true ↦ k
      | false ↦ elim (c == 37) as (λ b. NoPeriod ((if b then Percent else Literal c) ∷ q)) [ true ↦ k | false ↦ (h, k) ]
    ]

no_period : (q : List ℕ) → Plain q → NoPeriod (tokens q)
no_period [] h = tt
no_period (c ∷ []) h = no_period_one c [] h.0 tt
no_period (c ∷ (d ∷ q)) h =
    elim ((c == 42) && (d == 42)) as (λ b. NoPeriod (if b then Stars ∷ tokens q else (token_of c ∷ tokens (d ∷ q)))) [
      | true ↦ no_period q h.1.1
      | false ↦ no_period_one c (tokens (d ∷ q)) h.0 (no_period (d ∷ q) h.1)
    ]

some_tokens : (q : List ℕ) → q ≢ [] → tokens q ≢ []
some_tokens [] h e = h refl
some_tokens (c ∷ []) h e = cc
some_tokens (c ∷ (d ∷ q)) h e =
    elim ((c == 42) && (d == 42)) as (λ b. (if b then Stars ∷ tokens q else (token_of c ∷ tokens (d ∷ q))) ≡ [] → ⊥) [ true ↦ (λ k. cc) | false ↦ (λ k. cc) ] e

not_empty : (q : List ℕ) → is_qualifier Generic q ≡ true → q ≢ []
not_empty [] h e = cc
not_empty (c ∷ q) h e = cc

are_parts : (at : ℕ) (parts : List (List ℕ)) → bad_part Generic at parts ≡ None → AllByRecursion Plain parts → AllByRecursion IsPart (map tokens parts)
are_parts at [] h k = tt
are_parts at (q ∷ parts) h k =
    elim (is_qualifier Generic q) as (λ b. is_qualifier Generic q ≡ b
    → cond b (bad_part Generic (at + length q + 1) parts) (Some at) ≡ None
    → AllByRecursion IsPart (map tokens (q ∷ parts))) [
      | true ↦ (λ e m. ((some_tokens q (not_empty q e), no_period q k.0), are_parts (at + length q + 1) parts m k.1))
      | false ↦ (λ e m. cc)
    ] refl h

pub pattern_parts : (text : List ℕ) → name_fault pattern_rule text ≡ None → AllByRecursion IsPart (map tokens (qualifiers text))
pattern_parts text h = are_parts 0 (qualifiers text) (name_passes pattern_rule text h).parts (plain_parts text)

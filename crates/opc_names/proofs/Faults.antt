-- What a text without fault has passed: it is a short ASCII text.
use Rattle.std.proofs.Common.{
  ◌≡◌,
  ℕ,
  ◌≤◌,
  ◌<◌,
  ◌+◌,
  Bool,
  true,
  false,
  not,
  cond,
  nat_lt,
  ◌==◌,
  ◌||◌,
  List,
  [],
  ◌∷◌,
  length,
  suc,
  get_or,
  drop,
  Option,
  Some,
  None,
  refl,
  ap,
  arith,
  ◌⊎◌,
  inl,
  inr,
}
use Rattle.std.specs.List.{position, position_or_len, AllByRecursion}
use Rattle.std.specs.Option.{option_map, option_or}
use Rattle.std.specs.Str.{IsAscii, chars, bytes_eq}
use Rattle.std.proofs.lemmas.Bool.Decides.{nat_tests, eqb_tells}
use Rattle.std.proofs.lemmas.Slice.Eq.{bytes_eq-Decides}
use Rattle.std.proofs.lemmas.Str.{chars-IsAscii}
use Rattle.std.proofs.lemmas.Str.Ascii.{IsAscii-cons, IsAscii-nil}
use Rattle.opc_names.specs.declared.rule.Alphabet.{Alphabet}
use Rattle.opc_names.specs.declared.rule.Alphabet.TheVariants.{NameCharacters, NoDigitFirst, Hexadecimal, Qualified, Generic}
use Rattle.opc_names.specs.declared.rule.NameFault.TheVariants.{Empty, TooShort, TooLong, BadCharacter, BadQualifier}
use Rattle.opc_names.specs.declared.rule.NameRule.{NameRule}
use Rattle.opc_names.specs.Names.{
  may_begin,
  may_follow,
  bad_character,
  star_only_last,
  is_qualifier,
  bad_part,
  bad_qualifier,
  qualifiers,
  name_fault,
  pattern_rule,
}
use Rattle.opc_names.specs.Walk.{StarOnlyLast, IsQualifier}

follow_ascii : (a : Alphabet) (c : ℕ) → may_follow a c ≡ true → c < 128
follow_ascii NameCharacters c h = grind (arith, nat_tests)
follow_ascii NoDigitFirst c h = grind (arith, nat_tests)
follow_ascii Hexadecimal c h = grind (arith, nat_tests)
follow_ascii Qualified c h = grind (arith, nat_tests)
follow_ascii Generic c h = grind (arith, nat_tests)

pub begin_follows : (a : Alphabet) (c : ℕ) → may_begin a c ≡ true → may_follow a c ≡ true
begin_follows NameCharacters c h = h
begin_follows NoDigitFirst c h = grind (arith, nat_tests)
begin_follows Hexadecimal c h = h
begin_follows Qualified c h = h
begin_follows Generic c h = h

-- characters that all pass a test which only ASCII passes
pub all_pass : (p : ℕ → Bool) (cs : List ℕ) → ((c : ℕ) → p c ≡ true → c < 128) → length cs ≤ position_or_len (λ d. not (p d)) cs → IsAscii cs
all_pass p [] small h = IsAscii-nil
all_pass p (c ∷ cs) small h =
    elim (p c) as (λ b. p c ≡ b → suc (length cs) ≤ cond (not (not b)) (1 + position_or_len (λ d. not (p d)) cs) 0 → IsAscii (c ∷ cs)) [
      | true ↦ (λ e k. IsAscii-cons c cs (small c e) (all_pass p cs small (omega arith)))
      | false ↦ (λ e k. absurd (omega arith))
    ] refl h

pub none_of_map : {A B : Type 0} (f : A → B) (o : Option A) → option_map f o ≡ None → o ≡ None
none_of_map f None h = refl
none_of_map f (Some x) h = cc

cond_none : {A : Type 0} (b : Bool) (x : A) (o : Option A) → cond b (Some x) o ≡ None → (b ≡ false) × (o ≡ None)
cond_none true x o h = cc
cond_none false x o h = (refl, h)

or_none : {A : Type 0} (o p : Option A) → option_or o p ≡ None → (o ≡ None) × (p ≡ None)
or_none None p h = (refl, h)
or_none (Some x) p h = cc

good_characters_ascii : (a : Alphabet) (text : List ℕ) → bad_character a text ≡ None → IsAscii text
good_characters_ascii a [] h = IsAscii-nil
good_characters_ascii a (c ∷ cs) h =
    elim (may_begin a c) as (λ b. may_begin a c ≡ b
    → cond b (option_map (λ i. i + 1) (position (λ d. not (may_follow a d)) cs)) (Some 0) ≡ None → IsAscii (c ∷ cs)) [
      | true ↦ (λ e k. let n = none_of_map (λ i. i + 1) (position (λ d. not (may_follow a d)) cs) k in
          IsAscii-cons c cs (follow_ascii a c (begin_follows a c e))
          (all_pass (may_follow a) cs (follow_ascii a) (grind (arith, nat_tests, n))))
      | false ↦ (λ e k. cc)
    ] refl h

-- good characters take a byte each
pub good_count : (a : Alphabet) (text : List ℕ) → bad_character a text ≡ None → length (chars text) ≡ length text
good_count a text h = ap length (chars-IsAscii text (good_characters_ascii a text h))

-- what a text without fault has passed
pub record Passes (rule : NameRule) (text : List ℕ) : Type 0 where
  pub some : (length (chars text) == 0) ≡ false
  pub enough : nat_lt (length (chars text)) rule.least ≡ false
  pub few : nat_lt rule.most (length (chars text)) ≡ false
  pub characters : bad_character rule.alphabet text ≡ None
  pub parts : bad_qualifier rule.alphabet text ≡ None

pub name_passes : (rule : NameRule) (text : List ℕ) → name_fault rule text ≡ None → Passes rule text
name_passes rule text h =
    let one = cond_none (length (chars text) == 0) Empty _ h in
    let two = cond_none (nat_lt (length (chars text)) rule.least) TooShort _ one.1 in
    let three = cond_none (nat_lt rule.most (length (chars text))) TooLong _ two.1 in
    let four = or_none (option_map BadCharacter (bad_character rule.alphabet text)) (option_map BadQualifier (bad_qualifier rule.alphabet text)) three.1 in
    record { some = one.0; enough = two.0; few = three.0; characters = none_of_map BadCharacter _ four.0; parts = none_of_map BadQualifier _ four.1 }

pub name_ascii : (rule : NameRule) (text : List ℕ) → name_fault rule text ≡ None → IsAscii text
name_ascii rule text h = good_characters_ascii rule.alphabet text (name_passes rule text h).characters

pub name_short : (rule : NameRule) (text : List ℕ) → name_fault rule text ≡ None → length text ≤ rule.most
name_short rule text h =
    let few = rw (chars-IsAscii text (name_ascii rule text h)) at (name_passes rule text h).few in
    grind (arith, nat_tests)

pub name_long : (rule : NameRule) (text : List ℕ) → name_fault rule text ≡ None → 0 < length text
name_long rule text h =
    let some = rw (chars-IsAscii text (name_ascii rule text h)) at (name_passes rule text h).some in
    grind (arith, nat_tests)

star_last : (q : List ℕ) → star_only_last q ≡ true → StarOnlyLast q
star_last [] h = tt
star_last (c ∷ []) h = tt
star_last (c ∷ (d ∷ q)) h =
    elim (eqb_tells c 42) [
      | inl k ↦ (let e = rw k.0 at h in cc)
      | inr k ↦ (k.1, star_last (d ∷ q) (rw k.0 at h))
    ]

or_cases : (a b : Bool) → (a || b) ≡ true → (a ≡ true) ⊎ (b ≡ true)
or_cases true b h = inl refl
or_cases false b h = inr h

qualifier_is : (q : List ℕ) → is_qualifier Generic q ≡ true → IsQualifier q
qualifier_is [] h = cc
qualifier_is (c ∷ q) h =
    elim (or_cases (bytes_eq (c ∷ q) (42 ∷ 42 ∷ [])) (star_only_last (c ∷ q)) h) [
      | inl k ↦ inl ((bytes_eq-Decides (c ∷ q) (42 ∷ 42 ∷ [])).0 k)
      | inr k ↦ inr (star_last (c ∷ q) k)
    ]

all_qualifiers : (at : ℕ) (parts : List (List ℕ)) → bad_part Generic at parts ≡ None → AllByRecursion IsQualifier parts
all_qualifiers at [] h = tt
all_qualifiers at (q ∷ parts) h =
    elim (is_qualifier Generic q) as (λ b. is_qualifier Generic q ≡ b
    → cond b (bad_part Generic (at + length q + 1) parts) (Some at) ≡ None → AllByRecursion IsQualifier (q ∷ parts)) [
      | true ↦ (λ e k. (qualifier_is q e, all_qualifiers (at + length q + 1) parts k))
      | false ↦ (λ e k. cc)
    ] refl h

-- the parts of a pattern are qualifiers
pub pattern_qualifiers : (text : List ℕ) → name_fault pattern_rule text ≡ None → AllByRecursion IsQualifier (qualifiers text)
pattern_qualifiers text h = all_qualifiers 0 (qualifiers text) (name_passes pattern_rule text h).parts

-- where the first may begin, the first bad character is after it
pub good_first : (a : Alphabet) (text : List ℕ) → 0 < length text → may_begin a (get_or text 0 0) ≡ true
    → bad_character a text ≡ option_map (λ i. i + 1) (position (λ d. not (may_follow a d)) (drop 1 text))
good_first a [] h e = absurd (omega arith)
good_first a (c ∷ cs) h e = rw e refl

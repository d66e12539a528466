-- The names of units and of consoles: which texts are, and what they are.
use Rattle.std.proofs.Common.{
  ◌≡◌,
  ℕ,
  ◌+◌,
  ◌≤◌,
  Bool,
  true,
  false,
  not,
  cond,
  nat_lt,
  ◌==◌,
  ◌&&◌,
  List,
  [],
  ◌∷◌,
  length,
  suc,
  Some,
  None,
  refl,
  ap,
  sym,
  ◌∙◌,
  arith,
}
use Rattle.std.specs.List.{position, position_or_len, list_all, onto_first}
use Rattle.std.specs.Option.{option_map}
use Rattle.std.proofs.lemmas.Bool.Decides.{nat_tests}
use Rattle.opc_names.specs.declared.rule.Alphabet.{Alphabet}
use Rattle.opc_names.specs.declared.rule.NameRule.{NameRule}
use Rattle.opc_names.specs.Names.{
  is_name_character,
  may_begin,
  may_follow,
  bad_character,
  bad_part,
  name_fault,
  qualifiers,
  is_plain,
  unit_rule,
  console_rule,
}
use Rattle.opc_names.proofs.Faults.{begin_follows, name_passes, none_of_map, good_count}
use Rattle.opc_names.proofs.Resources.{plain_parts}

pub both : (a b : Bool) → (a && b) ≡ true → (a ≡ true) × (b ≡ true)
both true b h = (refl, h)
both false b h = cc

pub and_true : (a b : Bool) → a ≡ true → b ≡ true → (a && b) ≡ true
and_true a b e f = rw (e, f) refl

-- the kinds of name that stand in resources
pub record IsUsual (rule : NameRule) : Type 0 where
  pub plain : is_plain rule.alphabet ≡ true
  pub follows : (c : ℕ) → may_follow rule.alphabet c ≡ is_name_character c
  pub begins : may_begin rule.alphabet 65 ≡ true
  pub some : 1 ≤ rule.least
  pub room : rule.least ≤ rule.most
  pub most : rule.most ≤ 8

pub unit_usual : IsUsual unit_rule
unit_usual = record { plain = refl; follows = λ c. refl; begins = refl; some = omega arith; room = omega arith; most = omega arith }

pub console_usual : IsUsual console_rule
console_usual = record { plain = refl; follows = λ c. refl; begins = refl; some = omega arith; room = omega arith; most = omega arith }

pub all_run : (p : ℕ → Bool) (xs : List ℕ) → list_all p xs ≡ true → position_or_len (λ c. not (p c)) xs ≡ length xs
all_run p [] h = refl
all_run p (c ∷ cs) h =
    elim (p c) as (λ b. (b && list_all p cs) ≡ true → cond (not (not b)) (1 + position_or_len (λ d. not (p d)) cs) 0 ≡ suc (length cs)) [
      | true ↦ (λ k. let rest = all_run p cs k in omega (arith, rest))
      | false ↦ (λ k. cc)
    ] h

run_all : (p : ℕ → Bool) (xs : List ℕ) → length xs ≤ position_or_len (λ c. not (p c)) xs → list_all p xs ≡ true
run_all p [] h = refl
run_all p (c ∷ cs) h =
    elim (p c) as (λ b. suc (length cs) ≤ cond (not (not b)) (1 + position_or_len (λ d. not (p d)) cs) 0 → (b && list_all p cs) ≡ true) [
      | true ↦ (λ k. run_all p cs (omega arith))
      | false ↦ (λ k. absurd (omega arith))
    ] h

none_all : (p : ℕ → Bool) (xs : List ℕ) → position (λ c. not (p c)) xs ≡ None → list_all p xs ≡ true
none_all p xs h = run_all p xs (grind (arith, nat_tests, h))

pub all_none : (p : ℕ → Bool) (xs : List ℕ) → list_all p xs ≡ true → position (λ c. not (p c)) xs ≡ None
all_none p xs h = let run = all_run p xs h in grind (arith, nat_tests, run)

-- a text without bad character
pub all_follow : (a : Alphabet) (cs : List ℕ) → bad_character a cs ≡ None → list_all (may_follow a) cs ≡ true
all_follow a [] h = refl
all_follow a (c ∷ cs) h =
    elim (may_begin a c) as (λ b. may_begin a c ≡ b
    → cond b (option_map (λ i. i + 1) (position (λ d. not (may_follow a d)) cs)) (Some 0) ≡ None
    → list_all (may_follow a) (c ∷ cs) ≡ true) [
      | true ↦ (λ e k. and_true _ _ (begin_follows a c e) (none_all (may_follow a) cs (none_of_map (λ i. i + 1) _ k)))
      | false ↦ (λ e k. cc)
    ] refl h

pub same_all : (p q : ℕ → Bool) (xs : List ℕ) → ((c : ℕ) → p c ≡ q c) → list_all p xs ≡ list_all q xs
same_all p q [] same = refl
same_all p q (c ∷ cs) same = ap (λ b. b && list_all p cs) (same c) ∙ ap (λ b. q c && b) (same_all p q cs same)

pub weaker_all : (p q : ℕ → Bool) (xs : List ℕ) → ((c : ℕ) → p c ≡ true → q c ≡ true) → list_all p xs ≡ true → list_all q xs ≡ true
weaker_all p q [] w h = refl
weaker_all p q (c ∷ cs) w h =
    let k = both (p c) (list_all p cs) h in and_true _ _ (w c k.0) (weaker_all p q cs w k.1)

-- a name has name characters alone
pub name_characters : (rule : NameRule) (s : List ℕ) → IsUsual rule → name_fault rule s ≡ None → list_all is_name_character s ≡ true
name_characters rule s u h =
    sym (same_all (may_follow rule.alphabet) is_name_character s u.follows) ∙ all_follow rule.alphabet s (name_passes rule s h).characters

pub name_enough : (rule : NameRule) (s : List ℕ) → name_fault rule s ≡ None → nat_lt (length s) rule.least ≡ false
name_enough rule s h = ap (λ n. nat_lt n rule.least) (sym (good_count rule.alphabet s (name_passes rule s h).characters)) ∙ (name_passes rule s h).enough

-- a text of name characters is one qualifier
not_period : (c : ℕ) → is_name_character c ≡ true → not (c == 46) ≡ true
not_period c h = grind (arith, nat_tests)

one_part : (cs : List ℕ) → list_all (λ c. not (c == 46)) cs ≡ true → qualifiers cs ≡ cs ∷ []
one_part [] h = refl
one_part (c ∷ cs) h =
    elim (c == 46) as (λ b. (not b && list_all (λ d. not (d == 46)) cs) ≡ true → cond b ([] ∷ qualifiers cs) (onto_first c (qualifiers cs)) ≡ (c ∷ cs) ∷ []) [
      | true ↦ (λ k. cc)
      | false ↦ (λ k. ap (onto_first c) (one_part cs k))
    ] h

pub one_qualifier : (s : List ℕ) → list_all is_name_character s ≡ true → qualifiers s ≡ s ∷ []
one_qualifier s h = one_part s (weaker_all is_name_character (λ c. not (c == 46)) s not_period h)

-- a text of as many characters as a name has, of which the first may begin one, is a name
good_characters : (a : Alphabet) (c : ℕ) (cs : List ℕ) → may_begin a c ≡ true → list_all (may_follow a) cs ≡ true → bad_character a (c ∷ cs) ≡ None
good_characters a c cs e h = rw (e, all_none (may_follow a) cs h) refl

no_fault : (rule : NameRule) (text : List ℕ) → bad_character rule.alphabet text ≡ None → bad_part rule.alphabet 0 (qualifiers text) ≡ None
    → (length text == 0) ≡ false → nat_lt (length text) rule.least ≡ false → nat_lt rule.most (length text) ≡ false → name_fault rule text ≡ None
no_fault rule text bad parts some enough few = rw (good_count rule.alphabet text bad, some, enough, few, bad, parts) refl

pub is_name : (rule : NameRule) (c : ℕ) (cs : List ℕ) → IsUsual rule → may_begin rule.alphabet c ≡ true
    → list_all is_name_character cs ≡ true → rule.least ≤ suc (length cs) → suc (length cs) ≤ rule.most → name_fault rule (c ∷ cs) ≡ None
is_name rule c cs u begins follow enough few =
    let bad = good_characters rule.alphabet c cs begins (same_all (may_follow rule.alphabet) is_name_character cs u.follows ∙ follow) in
    let parts = plain_parts rule.alphabet (c ∷ cs) u.plain (omega arith) bad in
    let not_empty : (suc (length cs) == 0) ≡ false = grind (arith, nat_tests) in
    let not_short : nat_lt (suc (length cs)) rule.least ≡ false = grind (arith, nat_tests, enough) in
    let not_long : nat_lt rule.most (suc (length cs)) ≡ false = grind (arith, nat_tests, few) in
    no_fault rule (c ∷ cs) bad parts not_empty not_short not_long

-- Resources made of words and names.
use Rattle.std.proofs.Common.{
  ◌≡◌,
  ℕ,
  ◌≤◌,
  ◌<◌,
  ◌+◌,
  Bool,
  true,
  false,
  not,
  cond,
  nat_lt,
  nat_le,
  ◌==◌,
  ◌&&◌,
  List,
  [],
  ◌∷◌,
  ◌++◌,
  length,
  suc,
  Some,
  None,
  refl,
  ap,
  ◌∙◌,
  arith,
}
use Rattle.std.specs.List.{position, position_or_len, list_all, onto_first}
use Rattle.std.specs.Option.{option_map}
use Rattle.std.specs.Str.{IsAscii}
use Rattle.std.proofs.lemmas.Bool.Decides.{nat_tests}
use Rattle.std.proofs.lemmas.List.{length-append}
use Rattle.std.proofs.lemmas.List.Folds.{list_all-append}
use Rattle.std.proofs.lemmas.Str.{chars-IsAscii}
use Rattle.opc_names.specs.declared.rule.Alphabet.{Alphabet}
use Rattle.opc_names.specs.declared.rule.Alphabet.TheVariants.{NameCharacters, NoDigitFirst, Hexadecimal, Qualified, Generic}
use Rattle.opc_names.specs.declared.rule.NameRule.{NameRule}
use Rattle.opc_names.specs.Names.{
  may_begin,
  may_follow,
  bad_character,
  name_fault,
  resource_rule,
  is_plain,
  is_qualifier,
  bad_part,
  qualifiers,
  is_resource,
  IsResource,
}
use Rattle.opc_names.proofs.Faults.{all_pass, none_of_map, begin_follows, name_passes, name_short, name_long}
use Rattle.opc_names.proofs.Parts.{qualifiers_one, qualifiers_some}

both : (a b : Bool) → (a && b) ≡ true → (a ≡ true) × (b ≡ true)
both true b h = (refl, h)
both false b h = cc

and_true : (a b : Bool) → a ≡ true → b ≡ true → (a && b) ≡ true
and_true a b e f = rw (e, f) refl

all_run : (p : ℕ → Bool) (xs : List ℕ) → list_all p xs ≡ true → position_or_len (λ c. not (p c)) xs ≡ length xs
all_run p [] h = refl
all_run p (c ∷ cs) h =
    elim (p c) as (λ b. (b && list_all p cs) ≡ true → cond (not (not b)) (1 + position_or_len (λ d. not (p d)) cs) 0 ≡ suc (length cs)) [
      | true ↦ (λ k. let rest = all_run p cs k in omega (arith, rest))
      | false ↦ (λ k. cc)
    ] h

run_all : (p : ℕ → Bool) (xs : List ℕ) → length xs ≤ position_or_len (λ c. not (p c)) xs → list_all p xs ≡ true
run_all p [] h = refl
run_all p (c ∷ cs) h =
    elim (p c) as (λ b. suc (length cs) ≤ cond (not (not b)) (1 + position_or_len (λ d. not (p d)) cs) 0 → (b && list_all p cs) ≡ true) [
      | true ↦ (λ k. run_all p cs (omega arith))
      | false ↦ (λ k. absurd (omega arith))
    ] h

none_all : (p : ℕ → Bool) (xs : List ℕ) → position (λ c. not (p c)) xs ≡ None → list_all p xs ≡ true
none_all p xs h = run_all p xs (grind (arith, nat_tests, h))

stand_ascii : (c : ℕ) → may_follow Qualified c ≡ true → c < 128
stand_ascii c h = grind (arith, nat_tests)

fine_none : (at : ℕ) (parts : List (List ℕ)) → list_all (is_qualifier Qualified) parts ≡ true → bad_part Qualified at parts ≡ None
fine_none at [] h = refl
fine_none at (q ∷ parts) h = let k = both (is_qualifier Qualified q) (list_all (is_qualifier Qualified) parts) h in
    rw k.0 (fine_none (at + length q + 1) parts k.1)

none_fine : (at : ℕ) (parts : List (List ℕ)) → bad_part Qualified at parts ≡ None → list_all (is_qualifier Qualified) parts ≡ true
none_fine at [] h = refl
none_fine at (q ∷ parts) h =
    elim (is_qualifier Qualified q) as (λ b. cond b (bad_part Qualified (at + length q + 1) parts) (Some at) ≡ None
    → (b && list_all (is_qualifier Qualified) parts) ≡ true) [
      | true ↦ (λ k. none_fine (at + length q + 1) parts k)
      | false ↦ (λ k. cc)
    ] h

-- what the test passes
pub record Fine (text : List ℕ) : Type 0 where
  pub short : length text ≤ 39
  pub stands : list_all (may_follow Qualified) text ≡ true
  pub parts : list_all (is_qualifier Qualified) (qualifiers text) ≡ true

pub fine : (text : List ℕ) → is_resource text ≡ true → Fine text
fine text h =
    let one = both (nat_le (length text) 39) _ h in
    let two = both (list_all (may_follow Qualified) text) _ one.1 in
    record { short = grind (arith, nat_tests, one.0); stands = two.0; parts = two.1 }

pub fine_ascii : (text : List ℕ) → Fine text → IsAscii text
fine_ascii text f = all_pass (may_follow Qualified) text stand_ascii (let e = all_run (may_follow Qualified) text f.stands in omega (arith, e))

some_text : (text : List ℕ) → Fine text → 0 < length text
some_text [] f = let bad : false ≡ true = f.parts in cc
some_text (c ∷ cs) f = omega arith

good_characters : (text : List ℕ) → list_all (may_follow Qualified) text ≡ true → bad_character Qualified text ≡ None
good_characters [] h = refl
good_characters (c ∷ cs) h =
    let k = both (may_follow Qualified c) (list_all (may_follow Qualified) cs) h in
    let run = all_run (may_follow Qualified) cs k.1 in
    let rest : position (λ d. not (may_follow Qualified d)) cs ≡ None = grind (arith, nat_tests, run) in
    rw (k.0, rest) refl

-- such a text is a resource
pub no_fault : (text : List ℕ) → Fine text → IsResource text
no_fault text f =
    let some = some_text text f in
    let not_empty : (length text == 0) ≡ false = grind (arith, nat_tests, some) in
    let not_short : nat_lt (length text) 1 ≡ false = grind (arith, nat_tests, some) in
    let not_long : nat_lt 39 (length text) ≡ false = grind (arith, nat_tests, f.short) in
    rw (chars-IsAscii text (fine_ascii text f), not_empty, not_short, not_long, good_characters text f.stands, fine_none 0 (qualifiers text) f.parts) refl

-- a text without bad character
all_follow : (a : Alphabet) (cs : List ℕ) → bad_character a cs ≡ None → list_all (may_follow a) cs ≡ true
all_follow a [] h = refl
all_follow a (c ∷ cs) h =
    elim (may_begin a c) as (λ b. may_begin a c ≡ b
    → cond b (option_map (λ i. i + 1) (position (λ d. not (may_follow a d)) cs)) (Some 0) ≡ None
    → list_all (may_follow a) (c ∷ cs) ≡ true) [
      | true ↦ (λ e k. and_true _ _ (begin_follows a c e) (none_all (may_follow a) cs (none_of_map (λ i. i + 1) _ k)))
      | false ↦ (λ e k. cc)
    ] refl h

pub fault_fine : (text : List ℕ) → IsResource text → Fine text
fault_fine text h =
    let passes = name_passes resource_rule text h in
    record { short = name_short resource_rule text h; stands = all_follow Qualified text passes.characters; parts = none_fine 0 (qualifiers text) passes.parts }

onto_append : (c : ℕ) (xs ys : List (List ℕ)) → (xs ≡ [] → ⊥) → onto_first c (xs ++ ys) ≡ onto_first c xs ++ ys
onto_append c [] ys h = absurd (h refl)
onto_append c (x ∷ xs) ys h = refl

qualifiers_period : (a b : List ℕ) → qualifiers (a ++ 46 ∷ b) ≡ qualifiers a ++ qualifiers b
qualifiers_period [] b = refl
qualifiers_period (c ∷ a) b =
    elim (c == 46) as (λ v. cond v ([] ∷ qualifiers (a ++ 46 ∷ b)) (onto_first c (qualifiers (a ++ 46 ∷ b))) ≡ cond v
    ([] ∷ qualifiers a) (onto_first c (qualifiers a)) ++ qualifiers b) [
      | true ↦ ap (λ t. [] ∷ t) (qualifiers_period a b)
      | false ↦ ap (onto_first c) (qualifiers_period a b) ∙ onto_append c (qualifiers a) (qualifiers b) (qualifiers_some a)
    ]

-- two resources with a period between them
pub fine_period : (a b : List ℕ) → Fine a → Fine b → length a + length b < 39 → Fine (a ++ 46 ∷ b)
fine_period a b f g few = record {
  short = omega (arith, length-append a (46 ∷ b));
  stands = list_all-append (may_follow Qualified) a (46 ∷ b) ∙ and_true _ _ f.stands g.stands;
  parts = ap (list_all (is_qualifier Qualified)) (qualifiers_period a b)
      ∙ list_all-append (is_qualifier Qualified) (qualifiers a) (qualifiers b) ∙ and_true _ _ f.parts g.parts;
}

follow_stands : (a : Alphabet) (c : ℕ) → is_plain a ≡ true → may_follow a c ≡ true → (may_follow Qualified c ≡ true) × ((c == 46) ≡ false)
follow_stands NameCharacters c p h = (grind (arith, nat_tests), grind (arith, nat_tests))
follow_stands NoDigitFirst c p h = (grind (arith, nat_tests), grind (arith, nat_tests))
follow_stands Hexadecimal c p h = (grind (arith, nat_tests), grind (arith, nat_tests))
follow_stands Qualified c p h = cc
follow_stands Generic c p h = cc

follow_all : (a : Alphabet) (cs : List ℕ) → is_plain a ≡ true → list_all (may_follow a) cs ≡ true
    → (list_all (may_follow Qualified) cs ≡ true) × (list_all (λ c. not (c == 46)) cs ≡ true)
follow_all a [] p h = (refl, refl)
follow_all a (c ∷ cs) p h =
    let k = both (may_follow a c) (list_all (may_follow a) cs) h in
    let one = follow_stands a c p k.0 in
    let rest = follow_all a cs p k.1 in
    (and_true _ _ one.0 rest.0, and_true _ _ (ap not one.1) rest.1)

one_fine : (b : List ℕ) → 0 < length b → qualifiers b ≡ b ∷ [] → list_all (is_qualifier Qualified) (qualifiers b) ≡ true
one_fine [] h e = absurd (omega arith)
one_fine (c ∷ cs) h e = rw e refl

no_period : (xs : List ℕ) → list_all (λ c. not (c == 46)) xs ≡ true → position (λ c. c == 46) xs ≡ None
no_period xs h = let e = run xs h in grind (arith, nat_tests, e) where
  run : (ys : List ℕ) → list_all (λ c. not (c == 46)) ys ≡ true → position_or_len (λ c. c == 46) ys ≡ length ys
  run [] k = refl
  run (c ∷ cs) k =
      elim (c == 46) as (λ b. (not b && list_all (λ d. not (d == 46)) cs) ≡ true → cond (not b) (1 + position_or_len (λ d. d == 46) cs) 0 ≡ suc (length cs)) [
        | true ↦ (λ m. cc)
        | false ↦ (λ m. let rest = run cs m in omega (arith, rest))
      ] k

-- a plain name is a resource of one qualifier
name_fine : (rule : NameRule) (b : List ℕ) → is_plain rule.alphabet ≡ true → name_fault rule b ≡ None → length b ≤ 39 → Fine b
name_fine rule b p h few =
    let all = follow_all rule.alphabet b p (all_follow rule.alphabet b (name_passes rule b h).characters) in
    record { short = few; stands = all.0; parts = one_fine b (name_long rule b h) (qualifiers_one b (no_period b all.1)) }

plain_qualifier : (a : Alphabet) (c : ℕ) (cs : List ℕ) → is_plain a ≡ true → is_qualifier a (c ∷ cs) ≡ true
plain_qualifier NameCharacters c cs p = refl
plain_qualifier NoDigitFirst c cs p = refl
plain_qualifier Hexadecimal c cs p = refl
plain_qualifier Qualified c cs p = cc
plain_qualifier Generic c cs p = cc

one_part : (a : Alphabet) (text : List ℕ) → is_plain a ≡ true → 0 < length text → qualifiers text ≡ text ∷ [] → bad_part a 0 (qualifiers text) ≡ None
one_part a [] p h e = absurd (omega arith)
one_part a (c ∷ cs) p h e = rw (e, plain_qualifier a c cs p) refl

-- a plain text of good characters is one qualifier
pub plain_parts : (a : Alphabet) (text : List ℕ) → is_plain a ≡ true → 0 < length text → bad_character a text ≡ None → bad_part a 0 (qualifiers text) ≡ None
plain_parts a text p some h =
    let all = follow_all a text p (all_follow a text h) in
    one_part a text p some (qualifiers_one text (no_period text all.1))

pub words_valid : (text : List ℕ) → is_resource text ≡ true → IsResource text
words_valid text h = no_fault text (fine text h)

pub joined_valid : (a b : List ℕ) → IsResource a → IsResource b → length a + length b < 39 → IsResource (a ++ 46 ∷ b)
joined_valid a b h k few = no_fault (a ++ 46 ∷ b) (fine_period a b (fault_fine a h) (fault_fine b k) few)

pub name_valid : (rule : NameRule) (b : List ℕ) → is_plain rule.alphabet ≡ true → name_fault rule b ≡ None → length b ≤ 39 → IsResource b
name_valid rule b p h few = no_fault b (name_fine rule b p h few)

-- Words, names and numbers at the start of a stretch.
use Rattle.std.proofs.Common.{
  ◌≡◌,
  ℕ,
  ◌+◌,
  ◌≤◌,
  ◌<◌,
  ◌==◌,
  Bool,
  true,
  false,
  not,
  cond,
  nat_lt,
  List,
  [],
  ◌∷◌,
  ◌++◌,
  length,
  take,
  drop,
  Option,
  Some,
  None,
  refl,
  sym,
  ap,
  ◌∙◌,
  subst,
  arith,
  rules,
  suc,
}
use Rattle.std.specs.Option.{option_map, option_or, is_none}
use Rattle.std.specs.List.{prefix_len, position, position_or_len}
use Rattle.std.specs.Str.{bytes_eq, chars}
use Rattle.std.specs.Char.{to_ascii_uppercase}
use Rattle.std.proofs.lemmas.Bool.Decides.{nat_tests}
use Rattle.std.proofs.lemmas.List.{length-map, take-append-drop, length-take-le}
use Rattle.std.proofs.lemmas.List.Folds.{prefix_len-append}
use Rattle.std.proofs.lemmas.List.Sums.{prefix_len-le-length}
use Rattle.std.proofs.lemmas.Option.{cond_some, some_pair_parts}
use Rattle.std.proofs.lemmas.Slice.Eq.{bytes_eq-Decides}
use Rattle.std.proofs.Math.Seq.{take-append_seam, drop-append_seam}
use Rattle.opc_names.specs.declared.rule.Alphabet.{Alphabet}
use Rattle.opc_names.specs.declared.rule.Alphabet.TheVariants.{NameCharacters, NoDigitFirst, Hexadecimal, Qualified, Generic}
use Rattle.opc_names.specs.declared.rule.NameRule.{NameRule}
use Rattle.opc_names.specs.declared.rule.NameFault.TheVariants.{Empty, TooShort, TooLong, BadCharacter, BadQualifier}
use Rattle.opc_names.specs.Names.{is_name_character, may_begin, may_follow, bad_character, bad_qualifier, is_plain, name_fault}
use Rattle.opc_reader_commands.specs.declared.command.Operand.{Operand}
use Rattle.opc_reader_commands.specs.Stretches.{Stretch, folded, prefix, after, word}
use Rattle.opc_reader.specs.Operands.{in_name}
use Rattle.opc_reader.specs.Reading.{name}

pub bytes_same : (a b : List ℕ) → bytes_eq a b ≡ true → a ≡ b
bytes_same a b h = search (rules, bytes_eq-Decides)

pub bytes_refl : (a : List ℕ) → bytes_eq a a ≡ true
bytes_refl a = search (rules, bytes_eq-Decides)

pub bytes_other : (a b : List ℕ) → (a ≡ b → ⊥) → bytes_eq a b ≡ false
bytes_other a b h = grind (arith, nat_tests, bytes_eq-Decides a b)

-- a stretch of two parts
abbrev pub joined : List ℕ → List ℕ → ℕ → Stretch
joined a b n = record { text = a ++ b; from = n }

abbrev pub after_part : List ℕ → List ℕ → ℕ → Stretch
after_part a b n = record { text = b; from = n + length a }

pub length_folded : (a : List ℕ) → length (folded a) ≡ length a
length_folded a = length-map a to_ascii_uppercase

pub word_read : (a b : List ℕ) (n : ℕ) → word (folded a) (joined a b n) ≡ Some (after_part a b n)
unfolding word
word_read a b n = rw (length_folded a, take-append_seam a b, drop-append_seam a b, bytes_refl (folded a)) refl

pub word_found : (w : List ℕ) (s r : Stretch) → word w s ≡ Some r → (a : List ℕ) × (s.text ≡ a ++ r.text) × (folded a ≡ w) × (r ≡ after_part a r.text s.from)
unfolding word
word_found w s r h =
    let parts = cond_some (bytes_eq (folded (take (length w) s.text)) w) (after (length w) s) r h in
    let same : folded (take (length w) s.text) ≡ w = bytes_same _ _ parts.0 in
    let count : length w ≡ length (take (length w) s.text) = sym (ap length same) ∙ length_folded (take (length w) s.text) in
    let left : after (length w) s ≡ after_part (take (length w) s.text) (drop (length w) s.text) s.from = ap (λ k. record {
      text = drop (length w) s.text;
      from = s.from + k;
    }) count in
    let P : Stretch → Type 0 = λ q. (a : List ℕ) × (s.text ≡ a ++ q.text) × (folded a ≡ w) × (q ≡ after_part a q.text s.from) in
    subst P parts.1 (take (length w) s.text, sym (take-append-drop (length w) s.text), same, left)

-- the word at its beginning shows how far its name characters reach
pub word_run : (w : List ℕ) (s r : Stretch) → word w s ≡ Some r → prefix_len is_name_character w < length w
    → prefix_len in_name s.text ≡ prefix_len is_name_character w
word_run w s r h few =
    let found = word_found w s r h in
    let run : prefix_len in_name found.0 ≡ prefix_len is_name_character w = run_folded found.0 ∙ ap (prefix_len is_name_character) found.2 in
    let count : length found.0 ≡ length w = sym (length_folded found.0) ∙ ap length found.2 in
    rw found.1 (grind (arith, nat_tests, prefix_len-append in_name found.0 r.text)) where
      run_folded : (a : List ℕ) → prefix_len in_name a ≡ prefix_len is_name_character (folded a)
      run_folded [] = refl
      run_folded (c ∷ cs) = ap (λ k. cond (in_name c) (1 + k) 0) (run_folded cs)

none_of_map : {A B : Type 0} (f : A → B) (o : Option A) → option_map f o ≡ None → o ≡ None
none_of_map f None h = refl
none_of_map f (Some x) h = cc

cond_none : {A : Type 0} (b : Bool) (x : A) (o : Option A) → cond b (Some x) o ≡ None → (b ≡ false) × (o ≡ None)
cond_none true x o h = cc
cond_none false x o h = (refl, h)

follow_named : (a : Alphabet) (c : ℕ) → is_plain a ≡ true → may_follow a c ≡ true → is_name_character c ≡ true
follow_named NameCharacters c p h = h
follow_named NoDigitFirst c p h = h
follow_named Hexadecimal c p h = grind (arith, nat_tests)
follow_named Qualified c p h = cc
follow_named Generic c p h = cc

begin_named : (a : Alphabet) (c : ℕ) → is_plain a ≡ true → may_begin a c ≡ true → is_name_character c ≡ true
begin_named NameCharacters c p h = h
begin_named NoDigitFirst c p h = grind (arith, nat_tests)
begin_named Hexadecimal c p h = grind (arith, nat_tests)
begin_named Qualified c p h = cc
begin_named Generic c p h = cc

all_follow : (al : Alphabet) (cs : List ℕ) → is_plain al ≡ true
    → length (folded cs) ≤ position_or_len (λ d. not (may_follow al d)) (folded cs) → prefix_len in_name cs ≡ length cs
all_follow al [] p h = refl
all_follow al (c ∷ cs) p h =
    elim (may_follow al (to_ascii_uppercase c)) as
    (λ b. may_follow al (to_ascii_uppercase c) ≡ b
    → suc (length (folded cs)) ≤ cond (not (not b)) (1 + position_or_len (λ d. not (may_follow al d)) (folded cs)) 0
    → prefix_len in_name (c ∷ cs) ≡ suc (length cs)) [
      | true ↦ (λ e k. rw (follow_named al (to_ascii_uppercase c) p e) (let rest = all_follow al cs p (omega arith) in omega (arith, rest)))
      | false ↦ (λ e k. absurd (omega arith))
    ] refl h

bad_named : (al : Alphabet) (a : List ℕ) → is_plain al ≡ true → bad_character al (folded a) ≡ None → prefix_len in_name a ≡ length a
bad_named al [] p h = refl
bad_named al (c ∷ cs) p h =
    elim (may_begin al (to_ascii_uppercase c)) as
    (λ b. may_begin al (to_ascii_uppercase c) ≡ b
    → cond b (option_map (λ i. i + 1) (position (λ d. not (may_follow al d)) (folded cs))) (Some 0) ≡ None
    → prefix_len in_name (c ∷ cs) ≡ suc (length cs)) [
      | true ↦ (λ e k.
          let n = none_of_map (λ i. i + 1) (position (λ d. not (may_follow al d)) (folded cs)) k in
          rw (begin_named al (to_ascii_uppercase c) p e) (let rest = all_follow al cs p (grind (arith, nat_tests, n)) in omega (arith, rest)))
      | false ↦ (λ e k. cc)
    ] refl h

or_none : {A : Type 0} (o p : Option A) → option_or o p ≡ None → o ≡ None
or_none None p h = refl
or_none (Some x) p h = cc

-- a name has at least as many characters as its kind requires
pub name_long : (rule : NameRule) (v : List ℕ) → name_fault rule v ≡ None → nat_lt (length (chars v)) rule.least ≡ false
name_long rule v h =
    let some = cond_none (length (chars v) == 0) Empty _ h in
    (cond_none (nat_lt (length (chars v)) rule.least) TooShort _ some.1).0

-- and name characters alone
pub name_chars : (rule : NameRule) (a : List ℕ) → is_plain rule.alphabet ≡ true → name_fault rule (folded a) ≡ None → prefix_len in_name a ≡ length a
name_chars rule a p h =
    let some = cond_none (length (chars (folded a)) == 0) Empty _ h in
    let enough = cond_none (nat_lt (length (chars (folded a))) rule.least) TooShort _ some.1 in
    let few = cond_none (nat_lt rule.most (length (chars (folded a)))) TooLong _ enough.1 in
    let good = or_none (option_map BadCharacter (bad_character rule.alphabet (folded a)))
    (option_map BadQualifier (bad_qualifier rule.alphabet (folded a))) few.1 in
    bad_named rule.alphabet a p (none_of_map BadCharacter _ good)

pub name_read : (rule : NameRule) (a b : List ℕ) (n : ℕ) → is_plain rule.alphabet ≡ true
    → name_fault rule (folded a) ≡ None → prefix_len in_name b ≡ 0 → name rule (joined a b n) ≡ Some (
      record {
        value = folded a;
        typed = record { text = a; from = n };
      },
      after_part a b n,
    )
unfolding name
name_read rule a b n p h stops =
    let all = name_chars rule a p h in
    let run : prefix_len in_name (a ++ b) ≡ length a = grind (arith, nat_tests, prefix_len-append in_name a b) in
    rw (run, take-append_seam a b, drop-append_seam a b, h) refl

none_is : {A : Type 0} (o : Option A) → is_none o ≡ true → o ≡ None
none_is None h = refl
none_is (Some x) h = cc

pub name_found : (rule : NameRule) (s r : Stretch) (o : Operand (List ℕ)) → name rule s ≡ Some (o, r) → (a : List ℕ) × (s.text ≡ a ++ r.text) × (o ≡ record {
  value = folded a;
  typed = record { text = a; from = s.from };
}) × (name_fault rule (folded a) ≡ None) × (r ≡ after_part a r.text s.from)
unfolding name
name_found rule s r o h =
    let n : ℕ = prefix_len in_name s.text in
    let parts = cond_some (is_none (name_fault rule (folded (take n s.text)))) (
      record {
        value = folded (take n s.text);
        typed = prefix n s;
      },
      after n s,
    ) (o, r) h in
    let both = some_pair_parts _ _ _ _ (ap Some parts.1) in
    let count : n ≡ length (take n s.text) = sym (length-take-le n s.text (prefix_len-le-length in_name s.text)) in
    let left : after n s ≡ after_part (take n s.text) (drop n s.text) s.from = ap (λ k. record { text = drop n s.text; from = s.from + k }) count in
    let P : Stretch → Type 0 = λ q. (a : List ℕ) × (s.text ≡ a ++ q.text) × (o ≡ record {
      value = folded a;
      typed = record { text = a; from = s.from };
    }) × (name_fault rule (folded a) ≡ None) × (q ≡ after_part a q.text s.from) in
    subst P both.1 (take n s.text, sym (take-append-drop n s.text), sym both.0, none_is _ parts.0, left)

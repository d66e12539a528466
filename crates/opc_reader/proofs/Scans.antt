-- What the parts of a line are.
use Rattle.std.proofs.Common.{
  ◌≡◌,
  ℕ,
  ◌+◌,
  ◌-◌,
  ◌<◌,
  ◌&&◌,
  ◌↔◌,
  Bool,
  true,
  false,
  not,
  cond,
  nat_lt,
  List,
  [],
  ◌∷◌,
  ◌++◌,
  length,
  take,
  drop,
  reverse,
  Some,
  refl,
  sym,
  ap,
  ◌∙◌,
  arith,
  suc,
}
use Rattle.std.specs.List.{prefix_len, suffix_len, list_all}
use Rattle.std.specs.Str.{bytes_eq}
use Rattle.std.specs.Char.{to_ascii_uppercase}
use Rattle.std.proofs.lemmas.Bool.Decides.{nat_tests}
use Rattle.std.proofs.lemmas.List.{append_assoc, length-reverse, length-append, append-nil}
use Rattle.std.proofs.lemmas.List.Folds.{prefix_len-append}
use Rattle.std.proofs.Math.Seq.{take-append_seam, drop-append_seam}
use Rattle.opc_reader.specs.declared.verb.Verb.{Verb}
use Rattle.opc_reader_commands.specs.Stretches.{Stretch, folded}
use Rattle.opc_names.specs.Spellings.{lookup}
use Rattle.opc_reader.specs.Verbs.{verbs}
use Rattle.opc_reader.specs.Lines.{is_space, IsBare, trimmed, verb_place, skip_spaces, operands_place}
use Rattle.opc_reader.proofs.Leaves.{bytes_same}
use Rattle.opc_reader_commands.proofs.Quoted.{both_true}
use Rattle.opc_reader.proofs.Runs.{all_run, suffix_append, suffix_all}

abbrev pub no_space : ℕ → Bool
no_space c = not (is_space c)

space_upper : (c : ℕ) → is_space (to_ascii_uppercase c) ≡ is_space c
space_upper c = grind (arith, nat_tests)

unspaced : (xs : List ℕ) → list_all no_space (folded xs) ≡ list_all no_space xs
unspaced [] = refl
unspaced (c ∷ cs) = ap (λ b. not b && list_all no_space (folded cs)) (space_upper c) ∙ ap (λ b. no_space c && b) (unspaced cs)

-- a word: some characters, and no space
abbrev pub is_word : List ℕ → Bool
is_word w = nat_lt 0 (length w) && list_all no_space w

table_words : {V : Type 0} (table : List (List ℕ × V)) (w : List ℕ) (v : V) → list_all (λ e. is_word e.0) table ≡ true
    → lookup table w ≡ Some v → is_word w ≡ true
table_words [] w v h k = cc
table_words (e ∷ table) w v h k =
    let both = both_true (is_word e.0) (list_all (λ x. is_word x.0) table) h in
    elim (bytes_eq w e.0) as (λ b. bytes_eq w e.0 ≡ b → cond b (Some e.1) (lookup table w) ≡ Some v → is_word w ≡ true) [
      | true ↦ (λ f g. rw (bytes_same w e.0 f) both.0)
      | false ↦ (λ f g. table_words table w v both.1 g)
    ] refl k

length_folded : (xs : List ℕ) → length (folded xs) ≡ length xs
length_folded [] = refl
length_folded (c ∷ cs) = ap suc (length_folded cs)

-- a spelling of a verb is a word
pub record IsWord (w : List ℕ) : Type 0 where
  pub run : prefix_len no_space w ≡ length w
  pub some : 0 < length w

pub verb_word : (w : List ℕ) (v : Verb) → lookup verbs (folded w) ≡ Some v → IsWord w
verb_word w v h =
    let both = both_true (nat_lt 0 (length (folded w))) (list_all no_space (folded w)) (table_words verbs (folded w) v refl h) in
    let some : 0 < length (folded w) = grind (arith, nat_tests, both.0) in
    record { run = all_run no_space w (sym (unspaced w) ∙ both.1); some = omega (arith, some, length_folded w) }

-- a word does not begin with a space, nor end with one
no_run : (xs ys : List ℕ) → prefix_len no_space xs ≡ length xs → 0 < length xs → prefix_len is_space (xs ++ ys) ≡ 0
no_run [] ys h some = absurd (omega arith)
no_run (c ∷ cs) ys h some =
    elim (is_space c) as (λ b. is_space c ≡ b → cond (not b) (1 + prefix_len no_space cs) 0 ≡ suc (length cs) → prefix_len is_space (c ∷ (cs ++ ys)) ≡ 0) [
      | true ↦ (λ e k. absurd (omega (arith, k)))
      | false ↦ (λ e k. rw e refl)
    ] refl h

no_run_at_all : (xs : List ℕ) → prefix_len no_space xs ≡ length xs → prefix_len is_space xs ≡ 0
no_run_at_all [] h = refl
no_run_at_all (c ∷ cs) h = ap (prefix_len is_space) (sym (append-nil (c ∷ cs))) ∙ no_run (c ∷ cs) [] h (omega arith)

word_end : (xs : List ℕ) → prefix_len no_space xs ≡ length xs → suffix_len is_space xs ≡ 0
word_end xs h = no_run_at_all (reverse xs) (suffix_all no_space xs h ∙ sym (length-reverse xs))

-- the parts of a line
pub record Laid (before verb gap operands after : List ℕ) : Type 0 where
  pub before_run : prefix_len is_space before ≡ length before
  pub word : IsWord verb
  pub gap_run : prefix_len is_space gap ≡ length gap
  pub after_run : prefix_len is_space after ≡ length after
  pub separated : (operands ≡ []) ↔ (gap ≡ [])
  pub bare : IsBare operands

pub nothing : (xs : List ℕ) → length xs ≡ 0 → xs ≡ []
nothing [] h = refl
nothing (x ∷ xs) h = absurd (omega (arith, h))

body_end : (before verb gap operands after : List ℕ) → Laid before verb gap operands after → suffix_len is_space (verb ++ (gap ++ operands)) ≡ 0
body_end before verb gap operands after laid =
    let verb_end = word_end verb laid.word.run in
    let gap_end = suffix_all is_space gap laid.gap_run in
    let none : length operands ≡ 0 → length gap ≡ 0 = λ e. ap length (laid.separated.0 (nothing operands e)) in
    let bare : suffix_len is_space operands ≡ 0 = laid.bare.1 in
    let one = suffix_append is_space gap operands in
    let two = suffix_append is_space verb (gap ++ operands) in
    let total = length-append gap operands in
    grind (arith, nat_tests, one, two, total, none, verb_end, gap_end, bare)

gap_stops : (gap operands : List ℕ) → prefix_len is_space gap ≡ length gap → (gap ≡ [] → operands ≡ []) → prefix_len no_space (gap ++ operands) ≡ 0
gap_stops [] operands h none = rw (none refl) refl
gap_stops (c ∷ gap) operands h none =
    elim (is_space c) as (λ b. is_space c ≡ b → cond b (1 + prefix_len is_space gap) 0 ≡ suc (length gap) → prefix_len no_space (c ∷ (gap ++ operands)) ≡ 0) [
      | true ↦ (λ e k. rw e refl)
      | false ↦ (λ e k. absurd (omega (arith, k)))
    ] refl h

-- the places that a scan of the line finds
pub scan : (before verb gap operands after : List ℕ) → Laid before verb gap operands after
    → trimmed (before ++ (verb ++ (gap ++ (operands ++ after)))) ≡ record {
      text = verb ++ (gap ++ operands);
      from = length before;
    }
scan before verb gap operands after laid =
    let body : List ℕ = verb ++ (gap ++ operands) in
    let line : List ℕ = before ++ (verb ++ (gap ++ (operands ++ after))) in
    let whole : line ≡ (before ++ body) ++ after = simp append_assoc in
    let body_ends : suffix_len is_space body ≡ 0 = body_end before verb gap operands after laid in
    let after_ends = suffix_all is_space after laid.after_run in
    let some : 0 < length body = omega (arith, laid.word.some, length-append verb (gap ++ operands)) in
    let one = suffix_append is_space before body in
    let two = suffix_append is_space (before ++ body) after in
    let prefix_end : suffix_len is_space (before ++ body) ≡ 0 = grind (arith, nat_tests, one, some, body_ends) in
    let line_end : suffix_len is_space ((before ++ body) ++ after) ≡ length after = grind (arith, nat_tests, two, prefix_end, after_ends) in
    let n_is : length line - suffix_len is_space line ≡ length (before ++ body) =
    ap (λ t. length t - suffix_len is_space t) whole ∙ omega (arith, line_end, length-append (before ++ body) after) in
    let text_is : take (length line - suffix_len is_space line) line ≡ before ++ body =
    ap (λ n. take n line) n_is ∙ ap (take (length (before ++ body))) whole ∙ take-append_seam (before ++ body) after in
    let begins : prefix_len is_space body ≡ 0 = no_run verb (gap ++ operands) laid.word.run laid.word.some in
    let lead : prefix_len is_space (before ++ body) ≡ length before =
    grind (arith, nat_tests, prefix_len-append is_space before body, begins, laid.before_run) in
    let make : List ℕ → ℕ → Stretch = λ t k. record { text = drop k t; from = 0 + k } in
    let last : List ℕ → ℕ → Stretch = λ t k. record { text = t; from = k } in
    ap (λ t. make t (prefix_len is_space t)) text_is ∙ ap (make (before ++ body)) lead
    ∙ ap (λ t. last t (0 + length before)) (drop-append_seam before body) ∙ ap (last body) (omega arith)

pub scan_verb : (before verb gap operands after : List ℕ) (n : ℕ) → Laid before verb gap operands after
    → verb_place (record { text = verb ++ (gap ++ operands); from = n }) ≡ record {
      text = verb;
      from = n;
    }
scan_verb before verb gap operands after n laid =
    let stops = gap_stops gap operands laid.gap_run laid.separated.1 in
    let run : prefix_len no_space (verb ++ (gap ++ operands)) ≡ length verb =
    grind (arith, nat_tests, prefix_len-append no_space verb (gap ++ operands), stops, laid.word.run) in
    let last : List ℕ → Stretch = λ t. record { text = t; from = n } in
    ap (λ k. last (take k (verb ++ (gap ++ operands)))) run ∙ ap last (take-append_seam verb (gap ++ operands))

pub scan_operands : (before verb gap operands after : List ℕ) (n : ℕ) → Laid before verb gap operands after
    → operands_place (record { text = verb ++ (gap ++ operands); from = n }) ≡ record {
      text = operands;
      from = n + length verb + length gap;
    }
scan_operands before verb gap operands after n laid =
    let stops = gap_stops gap operands laid.gap_run laid.separated.1 in
    let run : prefix_len no_space (verb ++ (gap ++ operands)) ≡ length verb =
    grind (arith, nat_tests, prefix_len-append no_space verb (gap ++ operands), stops, laid.word.run) in
    let bare : prefix_len is_space operands ≡ 0 = laid.bare.0 in
    let skip : prefix_len is_space (gap ++ operands) ≡ length gap = grind (arith, nat_tests, prefix_len-append is_space gap operands, bare, laid.gap_run) in
    let last : List ℕ → ℕ → Stretch = λ t k. record { text = t; from = k } in
    ap (λ k. skip_spaces (last (drop k (verb ++ (gap ++ operands))) (n + k))) run ∙
    ap (λ t. skip_spaces (last t (n + length verb))) (drop-append_seam verb (gap ++ operands)) ∙
    ap (λ k. last (drop k (gap ++ operands)) (n + length verb + k)) skip ∙
    ap (λ t. last t (n + length verb + length gap)) (drop-append_seam gap operands)

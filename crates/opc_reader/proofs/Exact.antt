-- A line is read as a command if and only if the definition has one.
use Rattle.std.proofs.Common.{
  ◌≡◌,
  ℕ,
  ◌+◌,
  ◌-◌,
  ◌≤◌,
  ◌&&◌,
  Bool,
  true,
  false,
  not,
  cond,
  nat_lt,
  List,
  [],
  ◌∷◌,
  ◌++◌,
  length,
  take,
  drop,
  Option,
  Some,
  None,
  Result,
  Ok,
  Err,
  refl,
  sym,
  ap,
  ◌∙◌,
  arith,
  suc,
  subst,
  inl,
  inr,
}
use Rattle.std.specs.List.{prefix_len, suffix_len, list_all, position, position_or_len}
use Rattle.std.specs.Str.{chars}
use Rattle.std.proofs.lemmas.Bool.Decides.{nat_tests}
use Rattle.std.proofs.lemmas.List.{append_assoc, length-append, take-append-drop, length-take-le, length-drop}
use Rattle.std.proofs.lemmas.List.Folds.{length-prefix_len}
use Rattle.opc_reader.specs.declared.verb.Verb.{Verb}
use Rattle.opc_reader_commands.specs.declared.command.Command.{Command}
use Rattle.opc_reader.specs.declared.line.ReadFault.{ReadFault}
use Rattle.opc_reader.specs.declared.line.ReadFault.TheVariants.{Empty, TooLong, BadCharacter, BadOperand}
use Rattle.opc_reader_commands.specs.Stretches.{Stretch, folded}
use Rattle.opc_names.specs.Spellings.{lookup}
use Rattle.opc_reader.specs.Verbs.{verbs}
use Rattle.opc_reader.specs.Forms.{verb_of, parts, AreTyped}
use Rattle.opc_reader.specs.Reading.{command, outcome, outcome_of, reading}
use Rattle.opc_reader.specs.Lines.{
  is_space,
  is_typeable,
  Reads,
  trimmed,
  verb_place,
  operands_place,
  span,
  open_place,
  some_fault,
  quote_fault,
  early_fault,
  IsReadFault,
}
use Rattle.opc_reader.proofs.Forms.{complete, sound}
use Rattle.opc_reader.proofs.Opens.{no_open}
use Rattle.opc_reader.proofs.Steps.{Gives}
use Rattle.opc_reader.proofs.Runs.{all_run, run_all, run_prefix, run_rest, suffix_append, suffix_all, ended}
use Rattle.opc_reader.proofs.Scans.{no_space, verb_word, IsWord, Laid, scan, scan_verb, scan_operands, nothing}

laid_of : (line : List ℕ) (c : Command) (r : Reads line c) → Laid r.before r.verb r.gap r.operands r.after
laid_of line c r = record {
  before_run = all_run is_space r.before r.before_verb;
  word = verb_word r.verb (verb_of c) r.spelled;
  gap_run = all_run is_space r.gap r.after_verb;
  after_run = all_run is_space r.after r.after_operands;
  separated = r.separated;
  bare = r.bare;
}

-- where a scan finds the verb and the operands of a line that is read
trimmed_is : (line : List ℕ) (c : Command) (r : Reads line c) → trimmed line ≡ record { text = r.verb ++ (r.gap ++ r.operands); from = length r.before }
trimmed_is line c r = ap trimmed r.whole ∙ scan r.before r.verb r.gap r.operands r.after (laid_of line c r)

verb_is : (line : List ℕ) (c : Command) (r : Reads line c) → (verb_place (trimmed line)).text ≡ r.verb
verb_is line c r = ap (λ s. (verb_place s).text) (trimmed_is line c r)
    ∙ ap (λ s. s.text) (scan_verb r.before r.verb r.gap r.operands r.after (length r.before) (laid_of line c r))

operands_are : (line : List ℕ) (c : Command) (r : Reads line c) → operands_place (trimmed line) ≡ record {
  text = r.operands;
  from = length r.before + length r.verb + length r.gap;
}
operands_are line c r = ap operands_place (trimmed_is line c r) ∙ scan_operands r.before r.verb r.gap r.operands r.after (length r.before) (laid_of line c r)

-- such a line has no earlier fault
not_blank : (line : List ℕ) (c : Command) → Reads line c → list_all is_space line ≡ false
not_blank line c r = by_test (list_all is_space line) refl where
  word : IsWord r.verb
  word = verb_word r.verb (verb_of c) r.spelled

  by_test : (b : Bool) → list_all is_space line ≡ b → list_all is_space line ≡ false
  by_test false e = e
  by_test true e =
      let run : prefix_len is_space line ≡ length line = all_run is_space line e in
      let same : trimmed line ≡ record { text = r.verb ++ (r.gap ++ r.operands); from = length r.before } = trimmed_is line c r in
      let blank : length (trimmed line).text ≡ 0 = blank_trimmed run in
      absurd (omega (arith, blank, ap (λ s. length s.text) same, length-append r.verb (r.gap ++ r.operands), word.some)) where
        blank_trimmed : prefix_len is_space line ≡ length line → length (trimmed line).text ≡ 0
        blank_trimmed run =
            let ends = suffix_all is_space line run in
            let f : List ℕ = take (length line - suffix_len is_space line) line in
            omega (arith, length-drop {A = ℕ} (prefix_len is_space f) f, length-take-le (length line - suffix_len is_space line) line (omega arith), ends)

typeable_run : (xs : List ℕ) → list_all is_typeable xs ≡ true → position_or_len (λ c. not (is_typeable c)) xs ≡ length xs
typeable_run [] h = refl
typeable_run (c ∷ cs) h =
    elim (is_typeable c) as (λ b. (b && list_all is_typeable cs) ≡ true
    → cond (not (not b)) (1 + position_or_len (λ d. not (is_typeable d)) cs) 0 ≡ suc (length cs)) [
      | true ↦ (λ k. let rest = typeable_run cs k in omega (arith, rest))
      | false ↦ (λ k. cc)
    ] h

run_typeable : (xs : List ℕ) → length xs ≤ position_or_len (λ c. not (is_typeable c)) xs → list_all is_typeable xs ≡ true
run_typeable [] h = refl
run_typeable (c ∷ cs) h =
    elim (is_typeable c) as (λ b. suc (length cs) ≤ cond (not (not b))
    (1 + position_or_len (λ d. not (is_typeable d)) cs) 0 → (b && list_all is_typeable cs) ≡ true) [
      | true ↦ (λ k. run_typeable cs (omega arith))
      | false ↦ (λ k. absurd (omega arith))
    ] h

no_early : (line : List ℕ) (c : Command) → Reads line c → early_fault line ≡ None
no_early line c r =
    let short : nat_lt 126 (length (chars line)) ≡ false = grind (arith, nat_tests, r.short) in
    let run = typeable_run line r.typeable in
    let none : position (λ x. not (is_typeable x)) line ≡ None = grind (arith, nat_tests, run) in
    let spelled : lookup verbs (folded (verb_place (trimmed line)).text) ≡ Some (verb_of c) =
    ap (λ w. lookup verbs (folded w)) (verb_is line c r) ∙ r.spelled in
    let quote : open_place (verb_of c) (operands_place (trimmed line)) ≡ None = ap (open_place (verb_of c)) (operands_are line c r) ∙ no_open c _ r.typed in
    rw (not_blank line c r, short, none, spelled, quote) refl

-- what is a command is read as that command
pub reads_so : (line : List ℕ) (c : Command) → Reads line c → reading line ≡ Ok c
reads_so line c r =
    let spelled : lookup verbs (folded (verb_place (trimmed line)).text) ≡ Some (verb_of c) =
    ap (λ w. lookup verbs (folded w)) (verb_is line c r) ∙ r.spelled in
    let found : command (verb_of c) (operands_place (trimmed line)) ≡ Some c =
    ap (command (verb_of c)) (operands_are line c r) ∙ complete c _ r.typed r.meant in
    rw (no_early line c r, spelled, found) refl

both_zero : (xs : List ℕ) → prefix_len is_space xs ≡ 0 → prefix_len no_space xs ≡ 0 → xs ≡ []
both_zero [] h k = refl
both_zero (c ∷ cs) h k =
    elim (is_space c) as (λ b. cond b (1 + prefix_len is_space cs) 0 ≡ 0 → cond (not b) (1 + prefix_len no_space cs) 0 ≡ 0 → c ∷ cs ≡ []) [
      | true ↦ (λ e f. absurd (omega (arith, e)))
      | false ↦ (λ e f. absurd (omega (arith, f)))
    ] h k

cond_none : {A : Type 0} (b : Bool) (x : A) (o : Option A) → cond b (Some x) o ≡ None → (b ≡ false) × (o ≡ None)
cond_none true x o h = cc
cond_none false x o h = (refl, h)

fault_none : (o : Option ℕ) (f : ℕ → ReadFault) (next : Option ReadFault) → some_fault o f next ≡ None → (o ≡ None) × (next ≡ None)
fault_none None f next h = (refl, h)
fault_none (Some at) f next h = cc

-- a line without an early fault
pub record Passed (line : List ℕ) : Type 0 where
  pub short : length (chars line) ≤ 126
  pub typeable : list_all is_typeable line ≡ true
  pub quote : quote_fault (lookup verbs (folded (verb_place (trimmed line)).text)) (trimmed line) ≡ None

passed : (line : List ℕ) → early_fault line ≡ None → Passed line
passed line h =
    let one = cond_none (list_all is_space line) Empty _ h in
    let two = cond_none (nat_lt 126 (length (chars line))) TooLong _ one.1 in
    let three = fault_none (position (λ c. not (is_typeable c)) line) BadCharacter _ two.1 in
    record {
      short = grind (arith, nat_tests, two.0);
      typeable = run_typeable line (grind (arith, nat_tests, three.0));
      quote = three.1;
    }

-- the parts that a scan finds make up the line
from_scan : (line : List ℕ) (c : Command) → Passed line
    → lookup verbs (folded (verb_place (trimmed line)).text) ≡ Some (verb_of c)
    → Gives (verb_of c) (operands_place (trimmed line)) c → Reads line c
from_scan line c pass spelled found = record {
  before = before;
  verb = verb;
  gap = gap;
  operands = operands;
  after = after;
  whole = whole;
  short = pass.short;
  typeable = pass.typeable;
  before_verb = run_all is_space before before_run;
  after_verb = run_all is_space gap gap_run;
  after_operands = run_all is_space after (ended is_space line).run;
  separated = (no_gap, no_operands);
  bare = (run_rest is_space rest, operands_end);
  spelled = spelled;
  typed = subst Typed place found.typed;
  meant = found.meant;
} where
  n : ℕ
  n = length line - suffix_len is_space line

  prefix_text : List ℕ
  prefix_text = take n line

  after : List ℕ
  after = drop n line

  before : List ℕ
  before = take (prefix_len is_space prefix_text) prefix_text

  body : List ℕ
  body = drop (prefix_len is_space prefix_text) prefix_text

  verb : List ℕ
  verb = take (prefix_len no_space body) body

  rest : List ℕ
  rest = drop (prefix_len no_space body) body

  gap : List ℕ
  gap = take (prefix_len is_space rest) rest

  operands : List ℕ
  operands = drop (prefix_len is_space rest) rest

  before_run : prefix_len is_space before ≡ length before
  before_run = run_prefix is_space prefix_text ∙ sym (length-prefix_len is_space prefix_text)

  gap_run : prefix_len is_space gap ≡ length gap
  gap_run = run_prefix is_space rest ∙ sym (length-prefix_len is_space rest)

  prefix_is : prefix_text ≡ before ++ (verb ++ (gap ++ operands))
  prefix_is =
      sym (take-append-drop (prefix_len is_space prefix_text) prefix_text) ∙
      ap (λ t. before ++ t) (sym (take-append-drop (prefix_len no_space body) body)
      ∙ ap (λ t. verb ++ t) (sym (take-append-drop (prefix_len is_space rest) rest)))

  whole : line ≡ before ++ (verb ++ (gap ++ (operands ++ after)))
  whole = sym (take-append-drop n line) ∙ ap (λ t. t ++ after) prefix_is ∙ regroup before verb gap operands after where
    regroup : (a b d e f : List ℕ) → (a ++ (b ++ (d ++ e))) ++ f ≡ a ++ (b ++ (d ++ (e ++ f)))
    regroup a b d e f = simp append_assoc

  prefix_end : suffix_len is_space (before ++ (verb ++ (gap ++ operands))) ≡ 0
  prefix_end = ap (suffix_len is_space) (sym prefix_is) ∙ (ended is_space line).bare

  tail_end : (xs ys : List ℕ) → suffix_len is_space (xs ++ ys) ≡ 0 → suffix_len is_space ys ≡ 0
  tail_end xs ys h = grind (arith, nat_tests, suffix_append is_space xs ys, h)

  gap_end : suffix_len is_space (gap ++ operands) ≡ 0
  gap_end = tail_end verb (gap ++ operands) (tail_end before (verb ++ (gap ++ operands)) prefix_end)

  operands_end : suffix_len is_space operands ≡ 0
  operands_end = tail_end gap operands gap_end

  no_gap : operands ≡ [] → gap ≡ []
  no_gap e =
      let ends = suffix_all is_space gap gap_run in
      let none = ap length e in
      nothing gap (grind (arith, nat_tests, suffix_append is_space gap operands, gap_end, ends, none))

  no_operands : gap ≡ [] → operands ≡ []
  no_operands e =
      let zero : prefix_len is_space rest ≡ 0 = sym (length-prefix_len is_space rest) ∙ ap length e in
      let none : rest ≡ [] = both_zero rest zero (run_rest no_space body) in
      nothing operands (omega (arith, length-drop {A = ℕ} (prefix_len is_space rest) rest, ap length none))

  Typed : Stretch → Type 0
  Typed = AreTyped (parts c)

  at : ℕ → Stretch
  at k = record { text = operands; from = k }

  place : operands_place (trimmed line) ≡ record { text = operands; from = length before + length verb + length gap }
  place = ap at (omega (arith, length-prefix_len is_space prefix_text, length-prefix_len no_space body, length-prefix_len is_space rest))

outcome_ok : (o : Option Command) (s : Stretch) (c : Command) → outcome o s ≡ Ok c → o ≡ Some c
outcome_ok None s c h = cc
outcome_ok (Some d) s c h = cc

-- and what is read is a command
pub so_reads : (line : List ℕ) (c : Command) → reading line ≡ Ok c → Reads line c
so_reads line c h = by_fault (early_fault line) refl (lookup verbs (folded (verb_place (trimmed line)).text)) refl h where
  by_fault : (fault : Option ReadFault) → early_fault line ≡ fault → (v : Option Verb)
      → lookup verbs (folded (verb_place (trimmed line)).text) ≡ v
      → outcome_of fault v (operands_place (trimmed line)) ≡ Ok c → Reads line c
  by_fault (Some fault) e v f k = absurd (no k) where
    no : Err fault ≡ Ok c → ⊥
    no x = absurd (subst IsErrAt x tt) where
      IsErrAt : Result Command ReadFault → Type 0
      IsErrAt (Ok d) = ⊥
      IsErrAt (Err d) = Unit {0}
  by_fault None e None f k = absurd (no k) where
    no : Err (BadOperand (span (operands_place (trimmed line)))) ≡ Ok c → ⊥
    no x = absurd (subst IsErrAt x tt) where
      IsErrAt : Result Command ReadFault → Type 0
      IsErrAt (Ok d) = ⊥
      IsErrAt (Err d) = Unit {0}
  by_fault None e (Some v) f k =
      let found = sound v (operands_place (trimmed line)) c (outcome_ok (command v (operands_place (trimmed line))) (operands_place (trimmed line)) c k) in
      let P : Verb → Type 0 = λ w. Gives w (operands_place (trimmed line)) c in
      from_scan line c (passed line e) (f ∙ ap Some (sym found.verb)) (subst P (sym found.verb) found)

pub ok_err : (c : Command) (fault : ReadFault) → Ok c ≡ Err fault → ⊥
ok_err c fault x = absurd (subst IsOkAt x tt) where
  IsOkAt : Result Command ReadFault → Type 0
  IsOkAt (Ok d) = Unit {0}
  IsOkAt (Err d) = ⊥

-- a line that is not a command is answered by its first fault
pub fault_so : (line : List ℕ) (fault : ReadFault) → IsReadFault line fault → reading line ≡ Err fault
fault_so line fault (inl e) = rw e refl
fault_so line fault (inr (e, none, same)) = by_verb (lookup verbs (folded (verb_place (trimmed line)).text)) refl where
  by_command : (v : Verb) (o : Option Command) → lookup verbs (folded (verb_place (trimmed line)).text) ≡ Some v
      → command v (operands_place (trimmed line)) ≡ o → reading line ≡ Err fault
  by_command v None f g = rw (e, f, g) (ap Err (sym same))
  by_command v (Some c) f g = absurd (none c (so_reads line c (rw (e, f, g) refl)))

  by_verb : (v : Option Verb) → lookup verbs (folded (verb_place (trimmed line)).text) ≡ v → reading line ≡ Err fault
  by_verb None f = rw (e, f) (ap Err (sym same))
  by_verb (Some v) f = by_command v (command v (operands_place (trimmed line))) f refl

pub same_err : (a b : ReadFault) → ◌≡◌ {A = Result Command ReadFault} (Err a) (Err b) → a ≡ b
same_err a b h = cc

pub so_fault : (line : List ℕ) (fault : ReadFault) → reading line ≡ Err fault → IsReadFault line fault
so_fault line fault h = by_fault (early_fault line) refl where
  none : (c : Command) → Reads line c → ⊥
  none c r = ok_err c fault (sym (reads_so line c r) ∙ h)

  by_fault : (o : Option ReadFault) → early_fault line ≡ o → IsReadFault line fault
  by_fault (Some f) e =
      let same : reading line ≡ Err f = rw e refl in
      inl (e ∙ ap Some (same_err f fault (sym same ∙ h)))
  by_fault None e = by_verb (lookup verbs (folded (verb_place (trimmed line)).text)) refl where
    last : reading line ≡ Err (BadOperand (span (operands_place (trimmed line)))) → IsReadFault line fault
    last k = inr (e, none, same_err fault _ (sym h ∙ k))

    by_verb : (v : Option Verb) → lookup verbs (folded (verb_place (trimmed line)).text) ≡ v → IsReadFault line fault
    by_verb None f = last (rw (e, f) refl)
    by_verb (Some v) f = by_command (command v (operands_place (trimmed line))) refl where
      by_command : (o : Option Command) → command v (operands_place (trimmed line)) ≡ o → IsReadFault line fault
      by_command None g = last (rw (e, f, g) refl)
      by_command (Some c) g = let k : reading line ≡ Ok c = rw (e, f, g) refl in absurd (ok_err c fault (sym k ∙ h))

-- Lines with any name.
use Rattle.std.proofs.Common.{
  ◌≡◌,
  ℕ,
  ◌+◌,
  ◌≤◌,
  ◌<◌,
  Bool,
  true,
  false,
  not,
  cond,
  ◌&&◌,
  List,
  [],
  ◌∷◌,
  ◌++◌,
  length,
  reverse,
  codes,
  suc,
  Some,
  None,
  refl,
  ap,
  sym,
  ◌∙◌,
  arith,
  inr,
}
use Rattle.std.specs.Char.{to_ascii_uppercase}
use Rattle.std.specs.List.{list_all, prefix_len, suffix_len}
use Rattle.std.specs.Str.{chars}
use Rattle.std.proofs.lemmas.Bool.Decides.{nat_tests}
use Rattle.std.proofs.lemmas.List.{append-nil, length-append, length-reverse}
use Rattle.std.proofs.lemmas.List.Folds.{list_all-append}
use Rattle.std.proofs.lemmas.Str.{chars-IsAscii}
use Rattle.opc_names.specs.Names.{is_name_character, name_fault, unit_rule}
use Rattle.opc_names.specs.Spellings.{lookup}
use Rattle.opc_names.proofs.Faults.{all_pass, name_long, name_short}
use Rattle.opc_reader_commands.specs.declared.command.Operand.{Operand}
use Rattle.opc_reader_commands.specs.declared.command.Text.{Text}
use Rattle.opc_reader_commands.specs.declared.command.Command.{Command}
use Rattle.opc_reader_commands.specs.declared.command.Command.TheVariants.{
  Cancel,
  CancelUser,
  Force,
  StartAs,
  Stop,
  Modify,
}
use Rattle.opc_reader_commands.specs.Stretches.{folded}
use Rattle.opc_reader.specs.Forms.{verb_of, parts, AreTyped, IsMeant}
use Rattle.opc_reader.specs.Lines.{Reads, is_space, is_typeable}
use Rattle.opc_reader.specs.Verbs.{verbs}
use Rattle.opc_reader.proofs.Runs.{suffix_all}
use Rattle.opc_policy_witness.proofs.Names.{both, and_true, all_run, weaker_all, unit_usual, name_characters}

-- characters other than the space that may be typed
abbrev pub is_dark : ℕ → Bool
is_dark c = is_typeable c && not (is_space c)

abbrev no_space : ℕ → Bool
no_space c = not (is_space c)

dark_typeable : (c : ℕ) → is_dark c ≡ true → is_typeable c ≡ true
dark_typeable c h = (both (is_typeable c) (not (is_space c)) h).0

dark_unspaced : (c : ℕ) → is_dark c ≡ true → no_space c ≡ true
dark_unspaced c h = (both (is_typeable c) (not (is_space c)) h).1

named_dark : (c : ℕ) → is_name_character c ≡ true → is_dark c ≡ true
named_dark c h = grind (arith, nat_tests)

typeable_ascii : (c : ℕ) → is_typeable c ≡ true → c < 128
typeable_ascii c h = grind (arith, nat_tests)

-- names are in upper case
upper_one : (c : ℕ) → is_name_character c ≡ true → to_ascii_uppercase c ≡ c
upper_one c h = grind (arith, nat_tests)

upper : (s : List ℕ) → list_all is_name_character s ≡ true → folded s ≡ s
upper [] h = refl
upper (c ∷ cs) h =
    let k = both (is_name_character c) (list_all is_name_character cs) h in
    ap (λ d. d ∷ folded cs) (upper_one c k.0) ∙ ap (λ ds. c ∷ ds) (upper cs k.1)

-- what has no space neither begins nor ends with one
run_of : (xs : List ℕ) → list_all no_space xs ≡ true → prefix_len no_space xs ≡ length xs
run_of [] h = refl
run_of (c ∷ cs) h =
    elim (is_space c) as (λ b. (not b && list_all no_space cs) ≡ true → cond (not b) (1 + prefix_len no_space cs) 0 ≡ suc (length cs)) [
      | true ↦ (λ k. cc)
      | false ↦ (λ k. let rest = run_of cs k in omega (arith, rest))
    ] h

unspaced : (xs : List ℕ) → prefix_len no_space xs ≡ length xs → prefix_len is_space xs ≡ 0
unspaced [] h = refl
unspaced (c ∷ cs) h =
    elim (is_space c) as (λ b. cond (not b) (1 + prefix_len no_space cs) 0 ≡ suc (length cs) → cond b (1 + prefix_len is_space cs) 0 ≡ 0) [
      | true ↦ (λ k. absurd (omega (arith, k)))
      | false ↦ (λ k. refl)
    ] h

unspaced_end : (xs : List ℕ) → prefix_len no_space xs ≡ length xs → suffix_len is_space xs ≡ 0
unspaced_end xs h = unspaced (reverse xs) (suffix_all no_space xs h ∙ sym (length-reverse xs))

not_empty : (xs : List ℕ) → 0 < length xs → xs ≡ [] → ⊥
not_empty [] h e = absurd (omega (arith, h))
not_empty (x ∷ xs) h e = cc

-- a line of a verb, a space and operands
abbrev pub line_of : List ℕ → List ℕ → List ℕ
line_of verb operands = [] ++ (verb ++ (32 ∷ [] ++ (operands ++ [])))

-- such operands
pub record AreDark (operands : List ℕ) : Type 0 where
  pub dark : list_all is_dark operands ≡ true
  pub some : 0 < length operands
  pub few : length operands ≤ 100

pub record IsVerb (verb : List ℕ) : Type 0 where
  pub dark : list_all is_dark verb ≡ true
  pub few : length verb ≤ 6

typeable_line : (verb operands : List ℕ) → IsVerb verb → AreDark operands → list_all is_typeable (line_of verb operands) ≡ true
typeable_line verb operands v o =
    list_all-append is_typeable verb (32 ∷ [] ++ (operands ++ []))
    ∙ and_true _ _ (weaker_all is_dark is_typeable verb dark_typeable v.dark)
    (list_all-append is_typeable operands [] ∙ and_true _ _ (weaker_all is_dark is_typeable operands dark_typeable o.dark) refl)

short_line : (verb operands : List ℕ) → IsVerb verb → AreDark operands → length (chars (line_of verb operands)) ≤ 126
short_line verb operands v o =
    let all = all_run is_typeable (line_of verb operands) (typeable_line verb operands v o) in
    let ascii = all_pass is_typeable (line_of verb operands) typeable_ascii (omega (arith, all)) in
    rw (chars-IsAscii (line_of verb operands) ascii)
    (omega (arith, length-append verb (32 ∷ [] ++ (operands ++ [])), length-append operands [], v.few, o.few))

pub reads_so : (verb operands : List ℕ) (c : Command) → IsVerb verb → AreDark operands
    → lookup verbs (folded verb) ≡ Some (verb_of c)
    → AreTyped (parts c) (record { text = operands; from = 0 + length verb + 1 }) → IsMeant c → Reads (line_of verb operands) c
reads_so verb operands c v o spelled typed meant =
    let run = run_of operands (weaker_all is_dark no_space operands dark_unspaced o.dark) in
    record {
      before = [];
      verb = verb;
      gap = 32 ∷ [];
      operands = operands;
      after = [];
      whole = refl;
      short = short_line verb operands v o;
      typeable = typeable_line verb operands v o;
      before_verb = refl;
      after_verb = refl;
      after_operands = refl;
      separated = (λ e. absurd (not_empty operands o.some e), λ e. cc);
      bare = (unspaced operands run, unspaced_end operands run);
      spelled = spelled;
      typed = typed;
      meant = meant;
    }

abbrev pub IsUnitName : List ℕ → Type 0
IsUnitName name = name_fault unit_rule name ≡ None

abbrev pub operand : List ℕ → ℕ → Operand (List ℕ)
operand name from = record { value = name; typed = record { text = name; from = from } }

name_upper : (name : List ℕ) → IsUnitName name → name ≡ folded name
name_upper name h = sym (upper name (name_characters unit_rule name unit_usual h))

name_dark : (name : List ℕ) → IsUnitName name → list_all is_dark name ≡ true
name_dark name h = weaker_all is_name_character is_dark name named_dark (name_characters unit_rule name unit_usual h)

alone_dark : (name : List ℕ) → IsUnitName name → AreDark name
alone_dark name h = record { dark = name_dark name h; some = name_long unit_rule name h; few = let k = name_short unit_rule name h in omega (arith, k) }

verb_c : IsVerb (codes "C")
verb_c = record { dark = refl; few = omega arith }

verb_s : IsVerb (codes "S")
verb_s = record { dark = refl; few = omega arith }

verb_p : IsVerb (codes "P")
verb_p = record { dark = refl; few = omega arith }

verb_f : IsVerb (codes "F")
verb_f = record { dark = refl; few = omega arith }

verb_force : IsVerb (codes "FORCE")
verb_force = record { dark = refl; few = omega arith }

-- `C name`, `FORCE name`, `P name`
pub cancel_reads : (name : List ℕ) → IsUnitName name → Reads (line_of (codes "C") name) (Cancel (operand name 2))
cancel_reads name h =
    reads_so (codes "C") name (Cancel (operand name 2)) verb_c (alone_dark name h) refl
    (name, [], sym (append-nil name), (refl, name_upper name h, h), refl) tt

pub force_reads : (name : List ℕ) → IsUnitName name → Reads (line_of (codes "FORCE") name) (Force (operand name 6))
force_reads name h =
    reads_so (codes "FORCE") name (Force (operand name 6)) verb_force (alone_dark name h) refl
    (name, [], sym (append-nil name), (refl, name_upper name h, h), refl) tt

pub stop_reads : (name : List ℕ) → IsUnitName name → Reads (line_of (codes "P") name) (Stop (operand name 2))
stop_reads name h =
    reads_so (codes "P") name (Stop (operand name 2)) verb_p (alone_dark name h) refl
    (name, [], sym (append-nil name), (refl, name_upper name h, h), refl) tt

-- `C U=user`
pub cancel_user_reads : (name : List ℕ) → IsUnitName name → Reads (line_of (codes "C") (codes "U=" ++ name)) (CancelUser (operand name 4))
cancel_user_reads name h =
    let o = alone_dark name h in
    reads_so (codes "C") (codes "U=" ++ name) (CancelUser (operand name 4)) verb_c
    (record { dark = name_dark name h; some = omega arith; few = omega (arith, name_short unit_rule name h) }) refl
    (codes "U=", name, refl, refl, (name, [], sym (append-nil name), (refl, name_upper name h, h), refl)) tt

-- `S member.id`
pub start_reads : (member id : List ℕ) → IsUnitName member → IsUnitName id
    → Reads (line_of (codes "S") (member ++ 46 ∷ id)) (StartAs (operand member 2) (operand id (2 + length member + 1)))
start_reads member id h k =
    let dark : list_all is_dark (member ++ 46 ∷ id) ≡ true =
    list_all-append is_dark member (46 ∷ id) ∙ and_true _ _ (name_dark member h) (name_dark id k) in
    reads_so (codes "S") (member ++ 46 ∷ id) (StartAs (operand member 2) (operand id (2 + length member + 1))) verb_s
    (record {
      dark = dark;
      some = omega (arith, length-append member (46 ∷ id));
      few = omega (arith, length-append member (46 ∷ id), name_short unit_rule member h, name_short unit_rule id k);
    }) refl (
      member,
      46 ∷ id,
      refl,
      (refl, name_upper member h, h),
      (codes ".", id, refl, refl, (id, [], sym (append-nil id), (refl, name_upper id k, k), refl)),
    ) tt

-- `F name,X`
abbrev pub said : ℕ → Text
said from = record { typed = record { text = codes "X"; from = from } }

pub modify_reads : (name : List ℕ) → IsUnitName name
    → Reads (line_of (codes "F") (name ++ codes ",X")) (Modify (operand name 2) (said (2 + length name + 1)))
modify_reads name h =
    let dark : list_all is_dark (name ++ codes ",X") ≡ true =
    list_all-append is_dark name (codes ",X") ∙ and_true _ _ (name_dark name h) refl in
    reads_so (codes "F") (name ++ codes ",X") (Modify (operand name 2) (said (2 + length name + 1))) verb_f
    (record {
      dark = dark;
      some = omega (arith, length-append name (codes ",X"));
      few = omega (arith, length-append name (codes ",X"), name_short unit_rule name h);
    }) refl (
      name,
      codes ",X",
      refl,
      (refl, name_upper name h, h),
      (codes ",", codes "X", refl, refl, (codes "X", [], refl, (refl, inr (λ e. omega (arith, e), λ e. cc)), refl)),
    ) tt

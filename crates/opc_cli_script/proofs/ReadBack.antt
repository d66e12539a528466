-- An event reads back from its text.
use Rattle.std.proofs.Common.{
  ◌≡◌,
  ◌<◌,
  ◌≤◌,
  ◌++◌,
  ◌+◌,
  ℕ,
  suc,
  inl,
  inr,
  cond,
  Bool,
  true,
  false,
  not,
  List,
  [],
  ◌∷◌,
  Some,
  None,
  length,
  codes,
  refl,
  sym,
  ap,
  ◌∙◌,
  arith,
}
use Rattle.std.proofs.lemmas.Bool.Decides.{nat_tests, eqb_tells}
use Rattle.std.specs.List.{position, position_or_len}
use Rattle.std.specs.Option.{option_map}
use Rattle.opc_names.specs.declared.rule.NameRule.{NameRule}
use Rattle.opc_names.specs.declared.rule.Alphabet.{Alphabet}
use Rattle.opc_names.specs.declared.rule.Alphabet.TheVariants.{NameCharacters, NoDigitFirst, Hexadecimal, Qualified, Generic}
use Rattle.opc_names.specs.Names.{may_begin, may_follow, bad_character, unit_rule, device_rule}
use Rattle.opc_board.specs.declared.event.Event.{Event}
use Rattle.opc_board.specs.declared.event.Event.TheVariants as event
use Rattle.opc_board.specs.declared.rows.UnitKind.{UnitKind}
use Rattle.opc_board.specs.declared.rows.UnitKind.TheVariants.{Job, Stc, Tsu}
use Rattle.opc_board.specs.Texts.{columns, two_digits}
use Rattle.opc_cli_script.specs.Events.{IsName, IsKind, kind_words, cancelable_words, event_text}
use Rattle.opc_cli_script.specs.Reading.{
  is_space,
  separated,
  name_in,
  plain_kind,
  started_kind,
  kind_of,
  kind_in,
  job_in,
  allocate,
  not_empty,
  asked,
  ask,
  event_of,
  event_in,
}
use Rattle.opc_cli_script.specs.Laws.{EventsReadBack}
use Rattle.opc_names.proofs.Faults.{begin_follows, name_passes, none_of_map}
use Rattle.opc_cli_script.proofs.Words.{IsWord, separated_back, separated_none}
use Rattle.opc_cli_script.proofs.Spelled.{before_kind}
use Rattle.opc_cli_script.proofs.Numbers.{digits_are_word, id_back}

-- no character of a name is a space
follows : (a : Alphabet) → may_follow a 32 ≡ false
follows NameCharacters = refl
follows NoDigitFirst = refl
follows Hexadecimal = refl
follows Qualified = refl
follows Generic = refl

no_space_in : (a : Alphabet) (c : ℕ) → may_follow a c ≡ true → is_space c ≡ false
no_space_in a c h = elim (eqb_tells c 32) [
  | inl k ↦ absurd (cc (sym h ∙ ap (may_follow a) k.1 ∙ follows a))
  | inr k ↦ k.0
]

all_words : (a : Alphabet) (cs : List ℕ) → length cs ≤ position_or_len (λ d. not (may_follow a d)) cs → IsWord cs
all_words a [] h = refl
all_words a (c ∷ cs) h =
    elim (may_follow a c) as (λ b. may_follow a c ≡ b
    → suc (length cs) ≤ cond (not (not b)) (1 + position_or_len (λ d. not (may_follow a d)) cs) 0 → IsWord (c ∷ cs)) [
      | true ↦ (λ e k. rw (no_space_in a c e) (all_words a cs (omega arith)))
      | false ↦ (λ e k. absurd (omega arith))
    ] refl h

characters_are : (a : Alphabet) (text : List ℕ) → bad_character a text ≡ None → IsWord text
characters_are a [] h = refl
characters_are a (c ∷ cs) h =
    elim (may_begin a c) as (λ b. may_begin a c ≡ b
    → cond b (option_map (λ i. i + 1) (position (λ d. not (may_follow a d)) cs)) (Some 0) ≡ None → IsWord (c ∷ cs)) [
      | true ↦ (λ e k.
          let none = none_of_map (λ i. i + 1) (position (λ d. not (may_follow a d)) cs) k in
          rw (no_space_in a c (begin_follows a c e)) (all_words a cs (grind (arith, nat_tests, none))))
      | false ↦ (λ e k. cc)
    ] refl h

name_is_word : (rule : NameRule) (name : List ℕ) → IsName rule name → IsWord name
name_is_word rule name h = characters_are rule.alphabet name (name_passes rule name h).characters

name_back : (rule : NameRule) (name : List ℕ) → IsName rule name → name_in rule name ≡ Some name
name_back rule name h = rw h refl

kind_back : (kind : UnitKind) (cancelable : Bool) → IsKind kind → kind_in (columns (kind_words kind ++ cancelable_words cancelable)) ≡ Some (kind, cancelable)
unfolding plain_kind started_kind
kind_back Job true h = refl
kind_back Job false h = refl
kind_back Tsu true h = refl
kind_back Tsu false h = refl
kind_back (Stc member) true h =
    let later : separated (codes "STC" ++ 32 ∷ member) ≡ Some (codes "STC", member) = separated_back (codes "STC") member refl in
    let alone : separated member ≡ None = separated_none member (name_is_word unit_rule member h) in
    ap (kind_of (codes "STC" ++ 32 ∷ member)) later ∙ (rw (alone, name_back unit_rule member h) refl)
kind_back (Stc member) false h =
    let rest : List ℕ = member ++ 32 ∷ codes "NONCANCEL" in
    let later : separated (codes "STC" ++ 32 ∷ rest) ≡ Some (codes "STC", rest) = separated_back (codes "STC") rest refl in
    let parts : separated rest ≡ Some (member, codes "NONCANCEL") = separated_back member (codes "NONCANCEL") (name_is_word unit_rule member h) in
    ap (kind_of (codes "STC" ++ 32 ∷ rest)) later ∙ (rw (parts, name_back unit_rule member h) refl)

job_back : (name : List ℕ) (kind : UnitKind) (cancelable : Bool) → IsName unit_rule name → IsKind kind
    → job_in (name ++ 32 ∷ columns (kind_words kind ++ cancelable_words cancelable)) ≡ Some (event.JobIn name kind cancelable)
unfolding job_in
job_back name kind cancelable n k =
    let rest : List ℕ = columns (kind_words kind ++ cancelable_words cancelable) in
    let parts : separated (name ++ 32 ∷ rest) ≡ Some (name, rest) = separated_back name rest (name_is_word unit_rule name n) in
    rw (parts, name_back unit_rule name n, kind_back kind cancelable k) refl

allocate_back : (device unit : List ℕ) → IsName device_rule device → IsName unit_rule unit → allocate (device ++ 32 ∷ unit) ≡ Some (event.Allocate device unit)
unfolding allocate
allocate_back device unit d u =
    let parts : separated (device ++ 32 ∷ unit) ≡ Some (device, unit) = separated_back device unit (name_is_word device_rule device d) in
    rw (parts, name_back device_rule device d, name_back unit_rule unit u) refl

reported_back : (reported : List ℕ) → 0 < length reported → not_empty reported ≡ Some reported
reported_back reported h = grind (arith, nat_tests, h)

ask_back : (id : ℕ) (reported : List ℕ) → id < 100 → 0 < length reported → ask (two_digits id ++ 32 ∷ reported) ≡ Some (event.Ask id reported)
unfolding asked
ask_back id reported low long =
    let parts : separated (two_digits id ++ 32 ∷ reported) ≡ Some (two_digits id, reported) =
    separated_back (two_digits id) reported (digits_are_word id low) in
    rw (parts, id_back id low, reported_back reported long) refl

-- what follows a verb is read by the verb
verb_back : (verb rest : List ℕ) (e : Event) → IsWord verb → event_of (verb ++ 32 ∷ rest) (Some (verb, rest)) ≡ Some e → event_in (verb ++ 32 ∷ rest) ≡ Some e
verb_back verb rest e w h = ap (event_of (verb ++ 32 ∷ rest)) (separated_back verb rest w) ∙ h

pub reads_back : EventsReadBack
reads_back (event.JobIn name kind cancelable) h =
    let text : event_text (event.JobIn name kind cancelable) ≡ codes "JOBIN" ++ 32
    ∷ (name ++ 32 ∷ columns (kind_words kind ++ cancelable_words cancelable)) =
    ap (λ t. codes "JOBIN" ++ 32 ∷ t) (before_kind name kind (cancelable_words cancelable)) in
    ap event_in text ∙ verb_back (codes "JOBIN") _ _ refl (job_back name kind cancelable h.0 h.1)
reads_back (event.JobEnd name) h = verb_back (codes "JOBEND") name _ refl (ap (option_map event.JobEnd) (name_back unit_rule name h))
reads_back (event.Ask id reported) h = verb_back (codes "ASK") (two_digits id ++ 32 ∷ reported) _ refl (ask_back id reported h.0 h.1)
reads_back (event.Attach device) h = verb_back (codes "ATTACH") device _ refl (ap (option_map event.Attach) (name_back device_rule device h))
reads_back (event.Allocate device unit) h = verb_back (codes "ALLOCATE") (device ++ 32 ∷ unit) _ refl (allocate_back device unit h.0 h.1)
reads_back (event.Free device) h = verb_back (codes "FREE") device _ refl (ap (option_map event.Free) (name_back device_rule device h))
reads_back event.Resume h = refl

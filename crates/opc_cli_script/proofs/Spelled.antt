-- A text is read as an event only if it is that event's text.
use Rattle.std.proofs.Common.{
  ◌≡◌,
  ◌<◌,
  ◌++◌,
  ℕ,
  Bool,
  true,
  false,
  List,
  [],
  ◌∷◌,
  Option,
  Some,
  None,
  if◌then◌else◌,
  length,
  drop,
  codes,
  refl,
  sym,
  ap,
  subst,
  ◌∙◌,
  rules,
  arith,
}
use Rattle.std.specs.Option.{option_map}
use Rattle.std.specs.Str.{bytes_eq}
use Rattle.opc_names.specs.Names.{unit_rule, device_rule}
use Rattle.opc_names.specs.Spellings.{lookup}
use Rattle.opc_board.specs.declared.event.Event.{Event}
use Rattle.opc_board.specs.declared.event.Event.TheVariants as event
use Rattle.opc_board.specs.declared.rows.UnitKind.{UnitKind}
use Rattle.opc_board.specs.declared.rows.UnitKind.TheVariants.{Job, Stc, Tsu}
use Rattle.opc_board.specs.Texts.{columns, two_digits}
use Rattle.opc_cli_script.specs.Events.{IsKind, IsEvent, kind_words, cancelable_words, event_text}
use Rattle.opc_cli_script.specs.Reading.{
  ◌>>=◌,
  separated,
  name_in,
  id_in,
  flag_of,
  flagged,
  kinds,
  plain_kind,
  started_kind,
  kind_of,
  kind_in,
  job_in,
  allocate,
  not_empty,
  asked,
  ask,
  verbs,
  event_by,
  event_of,
}
use Rattle.opc_cli_script.specs.Laws.{EventsAreSpelled}
use Rattle.opc_cli_script.proofs.Words.{bytes_same, bind_some, mapped, name_is, separated_is}
use Rattle.opc_cli_script.proofs.Numbers.{id_is}

-- a text is these words, one space between them
abbrev IsOf : List ℕ → List (List ℕ) → Type 0
IsOf text words = text ≡ columns words

abbrev Flagged : List ℕ → List ℕ × Bool → Type 0
Flagged text word = IsOf text (word.0 ∷ cancelable_words word.1)

flagged_is : (text : List ℕ) (word : List ℕ × Bool) → flagged text ≡ Some word → Flagged text word
flagged_is text word h = go (separated text) refl h
  where
    test : (words : List ℕ × List ℕ) → separated text ≡ Some words → (b : Bool)
        → bytes_eq words.1 (codes "NONCANCEL") ≡ b → (if b then Some (words.0, false) else None) ≡ Some word
        → Flagged text word
    test words p true e k =
        let same : (words.0, false) ≡ word = search (rules, k) in
        let ends : words.1 ≡ codes "NONCANCEL" = bytes_same _ _ e in
        subst (Flagged text) same (separated_is text words p ∙ ap (λ t. words.0 ++ 32 ∷ t) ends)
    test words p false e k = absurd (search (rules, k))

    go : (o : Option (List ℕ × List ℕ)) → separated text ≡ o → flag_of text o ≡ Some word → Flagged text word
    go None p k = subst (Flagged text) (let same : (text, true) ≡ word = search (rules, k) in same) refl
    go (Some words) p k = test words p (bytes_eq words.1 (codes "NONCANCEL")) refl k

abbrev Kinded : List ℕ → UnitKind × Bool → Type 0
Kinded text kind = IsKind kind.0 × IsOf text (kind_words kind.0 ++ cancelable_words kind.1)

kind_spelled : (word : List ℕ) (kind : UnitKind) → lookup kinds word ≡ Some kind → IsKind kind × (kind_words kind ≡ word ∷ [])
kind_spelled word kind h = go (bytes_eq word (codes "JOB")) (bytes_eq word (codes "TSU")) refl refl h
  where
    go : (x y : Bool) → bytes_eq word (codes "JOB") ≡ x → bytes_eq word (codes "TSU") ≡ y
        → (if x then Some Job else (if y then Some Tsu else None)) ≡ Some kind → IsKind kind
        × (kind_words kind ≡ word ∷ [])
    go true y d e k = subst (λ q. IsKind q × (kind_words q ≡ word ∷ []))
        (let same : Job ≡ kind = search (rules, k) in same) (tt, ap (λ w. w ∷ []) (sym (bytes_same _ _ d)))
    go false true d e k = subst (λ q. IsKind q × (kind_words q ≡ word ∷ []))
        (let same : Tsu ≡ kind = search (rules, k) in same) (tt, ap (λ w. w ∷ []) (sym (bytes_same _ _ e)))
    go false false d e k = absurd (search (rules, k))

plain_is : (text : List ℕ) (kind : UnitKind × Bool) → plain_kind text ≡ Some kind → Kinded text kind
unfolding plain_kind
plain_is text kind h =
    let w = bind_some (flagged text) _ kind h in
    let k = bind_some (lookup kinds w.0.0) _ kind w.2 in
    let s = kind_spelled w.0.0 k.0 k.1 in
    let same : (k.0, w.0.1) ≡ kind = search (rules, k.2) in
    subst (Kinded text) same (s.0, flagged_is text w.0 w.1 ∙ ap (λ words. columns (words ++ cancelable_words w.0.1)) (sym s.1))

started_is : (text : List ℕ) (kind : UnitKind × Bool) → started_kind text ≡ Some kind → IsKind kind.0
    × (codes "STC" ++ 32 ∷ text ≡ columns (kind_words kind.0 ++ cancelable_words kind.1))
unfolding started_kind
started_is text kind h =
    let w = bind_some (flagged text) _ kind h in
    let m = bind_some (name_in unit_rule w.0.0) _ kind w.2 in
    let n = name_is unit_rule w.0.0 m.0 m.1 in
    let same : (Stc m.0, w.0.1) ≡ kind = search (rules, m.2) in
    subst (λ q. IsKind q.0 × (codes "STC" ++ 32 ∷ text ≡ columns (kind_words q.0 ++ cancelable_words q.1))) same
    (n.0, ap (λ t. codes "STC" ++ 32 ∷ t) (flagged_is text w.0 w.1 ∙ ap (λ member. columns (member ∷ cancelable_words w.0.1)) n.1))

kind_is : (text : List ℕ) (kind : UnitKind × Bool) → kind_in text ≡ Some kind → Kinded text kind
kind_is text kind h = go (separated text) refl h
  where
    test : (words : List ℕ × List ℕ) → separated text ≡ Some words → (b : Bool) → bytes_eq words.0 (codes "STC") ≡ b
        → (if b then started_kind words.1 else plain_kind text) ≡ Some kind → Kinded text kind
    test words p true e k =
        let s = started_is words.1 kind k in
        (s.0, separated_is text words p ∙ ap (λ t. t ++ 32 ∷ words.1) (bytes_same _ _ e) ∙ s.1)
    test words p false e k = plain_is text kind k

    go : (o : Option (List ℕ × List ℕ)) → separated text ≡ o → kind_of text o ≡ Some kind → Kinded text kind
    go None p k = plain_is text kind k
    go (Some words) p k = test words p (bytes_eq words.0 (codes "STC")) refl k

-- a text after the word of a verb
abbrev After : List ℕ → List ℕ → Event → Type 0
After verb text e = IsEvent e × (verb ++ 32 ∷ text ≡ event_text e)

pub before_kind : (name : List ℕ) (kind : UnitKind) (more : List (List ℕ))
    → columns (name ∷ (kind_words kind ++ more)) ≡ name ++ 32 ∷ columns (kind_words kind ++ more)
before_kind name Job more = refl
before_kind name (Stc member) more = refl
before_kind name Tsu more = refl

job_is : (text : List ℕ) (e : Event) → job_in text ≡ Some e → After (codes "JOBIN") text e
unfolding job_in
job_is text e h =
    let w = bind_some (separated text) _ e h in
    let n = bind_some (name_in unit_rule w.0.0) _ e w.2 in
    let k = bind_some (kind_in w.0.1) _ e n.2 in
    let name = name_is unit_rule w.0.0 n.0 n.1 in
    let kind = kind_is w.0.1 k.0 k.1 in
    let same : event.JobIn n.0 k.0.0 k.0.1 ≡ e = search (rules, k.2) in
    subst (After (codes "JOBIN") text) same (
      (name.0, kind.0),
      ap (λ t. codes "JOBIN" ++ 32 ∷ t) (separated_is text w.0 w.1 ∙ ap (λ t. t ++ 32 ∷ w.0.1) name.1
          ∙ ap (λ t. n.0 ++ 32 ∷ t) kind.1 ∙ sym (before_kind n.0 k.0.0 (cancelable_words k.0.1))),
    )

allocate_is : (text : List ℕ) (e : Event) → allocate text ≡ Some e → After (codes "ALLOCATE") text e
unfolding allocate
allocate_is text e h =
    let w = bind_some (separated text) _ e h in
    let d = bind_some (name_in device_rule w.0.0) _ e w.2 in
    let u = bind_some (name_in unit_rule w.0.1) _ e d.2 in
    let device = name_is device_rule w.0.0 d.0 d.1 in
    let unit = name_is unit_rule w.0.1 u.0 u.1 in
    let same : event.Allocate d.0 u.0 ≡ e = search (rules, u.2) in
    subst (After (codes "ALLOCATE") text) same (
      (device.0, unit.0),
      ap (λ t. codes "ALLOCATE" ++ 32 ∷ t) (separated_is text w.0 w.1 ∙ ap (λ t. t ++ 32 ∷ w.0.1) device.1 ∙ ap (λ t. d.0 ++ 32 ∷ t) unit.1),
    )

reported_is : (text reported : List ℕ) → not_empty text ≡ Some reported → (0 < length reported) × (text ≡ reported)
reported_is [] reported h = absurd (search (rules, h))
reported_is (c ∷ text) reported h =
    let same : c ∷ text ≡ reported = search (rules, h) in
    subst (λ t. (0 < length t) × (c ∷ text ≡ t)) same (omega arith, refl)

asked_is : (text : List ℕ) (parts : ℕ × List ℕ) → asked text ≡ Some parts → IsEvent (event.Ask parts.0 parts.1) × (text ≡ two_digits parts.0 ++ 32 ∷ parts.1)
unfolding asked
asked_is text parts h =
    let w = bind_some (separated text) _ parts h in
    let i = bind_some (id_in w.0.0) _ parts w.2 in
    let t = bind_some (not_empty w.0.1) _ parts i.2 in
    let id = id_is w.0.0 i.0 i.1 in
    let reported = reported_is w.0.1 t.0 t.1 in
    let same : (i.0, t.0) ≡ parts = search (rules, t.2) in
    subst (λ q. IsEvent (event.Ask q.0 q.1) × (text ≡ two_digits q.0 ++ 32 ∷ q.1)) same (
      (id.0, reported.0),
      separated_is text w.0 w.1 ∙ ap (λ x. x ++ 32 ∷ w.0.1) id.1 ∙ ap (λ x. two_digits i.0 ++ 32 ∷ x) reported.1,
    )

ask_is : (text : List ℕ) (e : Event) → ask text ≡ Some e → After (codes "ASK") text e
ask_is text e h =
    let a = mapped (λ (parts : ℕ × List ℕ). event.Ask parts.0 parts.1) (asked text) e h in
    let parts = asked_is text a.0 a.1 in
    subst (After (codes "ASK") text) a.2 (parts.0, ap (λ t. codes "ASK" ++ 32 ∷ t) parts.1)

-- a row of the table of verbs, and those that follow it
row_is : (verb text word : List ℕ) (e : Event) (read : List ℕ → Option Event)
    (rows : List (List ℕ × (List ℕ → Option Event))) (b : Bool) → bytes_eq verb word ≡ b
    → ((if b then Some read else lookup rows verb) >>= (λ r. r text)) ≡ Some e
    → (read text ≡ Some e → After word text e) → ((lookup rows verb >>= (λ r. r text)) ≡ Some e → After verb text e)
    → After verb text e
row_is verb text word e read rows true eq h here next = subst (λ v. After v text e) (sym (bytes_same verb word eq)) (here h)
row_is verb text word e read rows false eq h here next = next h

no_row : {A : Type 0} (text : List ℕ) (e : Event) → (let none : Option (List ℕ → Option Event) = None in (none >>= (λ r. r text))) ≡ Some e → A
no_row text e h = absurd (search (rules, h))

job_end_is : (text : List ℕ) (e : Event) → option_map event.JobEnd (name_in unit_rule text) ≡ Some e → After (codes "JOBEND") text e
job_end_is text e h =
    let m = mapped event.JobEnd (name_in unit_rule text) e h in
    let n = name_is unit_rule text m.0 m.1 in
    subst (After (codes "JOBEND") text) m.2 (n.0, ap (λ t. codes "JOBEND" ++ 32 ∷ t) n.1)

attach_is : (text : List ℕ) (e : Event) → option_map event.Attach (name_in device_rule text) ≡ Some e → After (codes "ATTACH") text e
attach_is text e h =
    let m = mapped event.Attach (name_in device_rule text) e h in
    let n = name_is device_rule text m.0 m.1 in
    subst (After (codes "ATTACH") text) m.2 (n.0, ap (λ t. codes "ATTACH" ++ 32 ∷ t) n.1)

free_is : (text : List ℕ) (e : Event) → option_map event.Free (name_in device_rule text) ≡ Some e → After (codes "FREE") text e
free_is text e h =
    let m = mapped event.Free (name_in device_rule text) e h in
    let n = name_is device_rule text m.0 m.1 in
    subst (After (codes "FREE") text) m.2 (n.0, ap (λ t. codes "FREE" ++ 32 ∷ t) n.1)

by_is : (verb text : List ℕ) (e : Event) → event_by verb text ≡ Some e → After verb text e
by_is verb text e h =
    row_is verb text (codes "JOBIN") e job_in (drop 1 verbs) (bytes_eq verb (codes "JOBIN")) refl h (job_is text e) (λ h.
    row_is verb text (codes "JOBEND") e (λ text. option_map event.JobEnd (name_in unit_rule text)) (drop 2 verbs)
    (bytes_eq verb (codes "JOBEND")) refl h (job_end_is text e) (λ h.
    row_is verb text (codes "ATTACH") e (λ text. option_map event.Attach (name_in device_rule text)) (drop 3 verbs)
    (bytes_eq verb (codes "ATTACH")) refl h (attach_is text e) (λ h.
    row_is verb text (codes "ALLOCATE") e allocate (drop 4 verbs) (bytes_eq verb (codes "ALLOCATE")) refl h (allocate_is text e) (λ h.
    row_is verb text (codes "FREE") e (λ text. option_map event.Free (name_in device_rule text)) []
    (bytes_eq verb (codes "FREE")) refl h (free_is text e) (λ h. no_row text e h)))))

pub spelled : EventsAreSpelled
spelled text e h = go (separated text) refl h
  where
    test : (words : List ℕ × List ℕ) → separated text ≡ Some words → (b : Bool) → bytes_eq words.0 (codes "ASK") ≡ b
        → (if b then ask words.1 else event_by words.0 words.1) ≡ Some e → IsEvent e × (text ≡ event_text e)
    test words p true eq k =
        let a = ask_is words.1 e k in
        (a.0, separated_is text words p ∙ ap (λ t. t ++ 32 ∷ words.1) (bytes_same _ _ eq) ∙ a.1)
    test words p false eq k =
        let a = by_is words.0 words.1 e k in
        (a.0, separated_is text words p ∙ a.1)

    alone : (b : Bool) → bytes_eq text (codes "RESUME") ≡ b → (if b then Some event.Resume else None) ≡ Some e → IsEvent e × (text ≡ event_text e)
    alone true eq k = subst (λ x. IsEvent x × (text ≡ event_text x)) (let same : event.Resume ≡ e = search (rules, k) in same) (tt, bytes_same _ _ eq)
    alone false eq k = absurd (search (rules, k))

    go : (o : Option (List ℕ × List ℕ)) → separated text ≡ o → event_of text o ≡ Some e → IsEvent e × (text ≡ event_text e)
    go None p k = alone (bytes_eq text (codes "RESUME")) refl k
    go (Some words) p k = test words p (bytes_eq words.0 (codes "ASK")) refl k

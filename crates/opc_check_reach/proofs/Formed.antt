-- What is asked about has one of the forms.
use Rattle.std.proofs.Common.{
  ◌≡◌,
  ℕ,
  true,
  List,
  [],
  ◌∷◌,
  codes,
  Option,
  Some,
  None,
  zero,
  suc,
  refl,
  ap,
  sym,
  ◌∙◌,
  subst,
  Bool,
  ◌⊎◌,
  inl,
  inr,
}
use Rattle.std.specs.Prelude.{◌↔◌, IsTrue}
use Rattle.std.specs.Cmp.{both_ways}
use Rattle.std.specs.List.{slice_get, list_any, AllByRecursion}
use Rattle.std.proofs.lemmas.Option.{same_Some}
use Rattle.opc_names.specs.Names.{qualifiers}
use Rattle.opc_names.specs.Patterns.{covers_text}
use Rattle.opc_terms.specs.declared.need.Need.{Need}
use Rattle.opc_terms.specs.declared.unit_kind.UnitKindAt.{UnitKindAt}
use Rattle.opc_terms.specs.declared.unit_kind.UnitKindAt.TheVariants.{Absent, Job, Stc, Tsu}
use Rattle.opc_reader_commands.specs.declared.command.Command.{Command}
use Rattle.opc_reader_commands.specs.declared.command.Command.TheVariants.{
  DisplayUnits,
  DisplayUnit,
  DisplayDevices,
  DisplayConsoles,
  DisplayReplies,
  Cancel,
  CancelUser,
  Force,
  Start,
  StartAs,
  Stop,
  Modify,
  Reply,
  VaryDeviceOnline,
  VaryDeviceOffline,
  VaryConsoleOnline,
  VaryConsoleOffline,
  VaryConsoleAuth,
  Mount,
  Unload,
  Swap,
  ResetConsole,
  Send,
  Log,
  Monitor,
  StopMonitor,
  Halt,
  Logon,
  Logoff,
}
use Rattle.opc_reader.specs.Lines.{Reads}
use Rattle.opc_table.specs.Table.{need, qualified, started}
use Rattle.opc_check_reach.specs.Forms.{
  AnyConsole,
  AnyUnit,
  Qualifier,
  decides,
  decides_of,
  decides_parts,
  fixed_forms,
  form,
  named_forms,
}
use Rattle.opc_check_reach.specs.Laws.{FormsAreAsked}
use Rattle.opc_check_reach.specs.Reach.{Decides, IsKind, IsAsked, IsMet}
use Rattle.opc_check_reach.proofs.Asked.{so_decides}
use Rattle.opc_check_reach.proofs.Deciding.{covers_none, covers_true, none_covers, parts_decide}
use Rattle.opc_check_reach.proofs.Texts.{IsAny, Made, made_form}
use Rattle.opc_check_reach.proofs.Trying.{or_left, or_right, resource_some}
use Rattle.opc_check_reach.proofs.Typed.{IsUnitName}

-- a resource of one of some forms
record IsFormed (forms : List (List Qualifier)) (resource : List ℕ) : Type 0 where
  place : ℕ
  words : List ℕ
  names : List Qualifier
  any : AllByRecursion IsAny names
  at_place : slice_get forms place ≡ Some (form words names)
  made : Made words names resource

abbrev HasForm : List ℕ → Type 0
HasForm resource = IsFormed fixed_forms resource ⊎ IsFormed named_forms resource

fixed : (i : ℕ) (words : List ℕ) → slice_get fixed_forms i ≡ Some (form words []) → HasForm words
fixed i words e = inl (record { place = i; words = words; names = []; any = tt; at_place = e; made = refl })

unit : (i : ℕ) (words name : List ℕ) → slice_get named_forms i ≡ Some (form words (AnyUnit ∷ [])) → IsUnitName name
    → HasForm (qualified words name)
unit i words name e h =
    inr (record { place = i; words = words; names = AnyUnit ∷ []; any = (tt, tt); at_place = e; made = (name, h, refl) })

task : (i : ℕ) (words member id : List ℕ) → slice_get named_forms i ≡ Some (form words (AnyUnit ∷ AnyUnit ∷ []))
    → IsUnitName member → IsUnitName id → HasForm (started words member id)
task i words member id e h k =
    inr (record {
      place = i;
      words = words;
      names = AnyUnit ∷ AnyUnit ∷ [];
      any = (tt, (tt, tt));
      at_place = e;
      made = (member, h, (id, k, refl));
    })

-- what a command needs
abbrev Formed : Option Need → Type 0
Formed None = Unit {0}
Formed (Some a) = HasForm a.resource

needs_formed : (c : Command) (kind : UnitKindAt) (line : List ℕ) → Reads line c → IsKind kind → Formed (need c kind)
needs_formed DisplayUnits kind line r k = fixed 0 (codes "MVS.DISPLAY.JOB") refl
needs_formed (DisplayUnit name) kind line r k = fixed 0 (codes "MVS.DISPLAY.JOB") refl
needs_formed DisplayDevices kind line r k = fixed 1 (codes "MVS.DISPLAY.U") refl
needs_formed DisplayConsoles kind line r k = fixed 2 (codes "MVS.DISPLAY.CN") refl
needs_formed DisplayReplies kind line r k = fixed 3 (codes "MVS.DISPLAY.R") refl
needs_formed (Cancel name) Absent line r k = unit 2 (codes "MVS.CANCEL.JOB") name.value refl r.typed.3.2
needs_formed (Cancel name) Job line r k = unit 2 (codes "MVS.CANCEL.JOB") name.value refl r.typed.3.2
needs_formed (Cancel name) (Stc member) line r k = task 9 (codes "MVS.CANCEL.STC") member name.value refl k r.typed.3.2
needs_formed (Cancel name) Tsu line r k = unit 2 (codes "MVS.CANCEL.JOB") name.value refl r.typed.3.2
needs_formed (CancelUser user) kind line r k = unit 3 (codes "MVS.CANCEL.TSU") user.value refl r.typed.4.3.2
needs_formed (Force name) Absent line r k = unit 4 (codes "MVS.FORCE.JOB") name.value refl r.typed.3.2
needs_formed (Force name) Job line r k = unit 4 (codes "MVS.FORCE.JOB") name.value refl r.typed.3.2
needs_formed (Force name) (Stc member) line r k = task 10 (codes "MVS.FORCE.STC") member name.value refl k r.typed.3.2
needs_formed (Force name) Tsu line r k = unit 5 (codes "MVS.FORCE.TSU") name.value refl r.typed.3.2
needs_formed (Start member) kind line r k = task 8 (codes "MVS.START.STC") member.value member.value refl r.typed.3.2 r.typed.3.2
needs_formed (StartAs member id) kind line r k = task 8 (codes "MVS.START.STC") member.value id.value refl r.typed.3.2 r.typed.4.4.3.2
needs_formed (Stop name) Absent line r k = unit 6 (codes "MVS.STOP.JOB") name.value refl r.typed.3.2
needs_formed (Stop name) Job line r k = unit 6 (codes "MVS.STOP.JOB") name.value refl r.typed.3.2
needs_formed (Stop name) (Stc member) line r k = task 11 (codes "MVS.STOP.STC") member name.value refl k r.typed.3.2
needs_formed (Stop name) Tsu line r k = unit 6 (codes "MVS.STOP.JOB") name.value refl r.typed.3.2
needs_formed (Modify name text) Absent line r k = unit 7 (codes "MVS.MODIFY.JOB") name.value refl r.typed.3.2
needs_formed (Modify name text) Job line r k = unit 7 (codes "MVS.MODIFY.JOB") name.value refl r.typed.3.2
needs_formed (Modify name text) (Stc member) line r k = task 12 (codes "MVS.MODIFY.STC") member name.value refl k r.typed.3.2
needs_formed (Modify name text) Tsu line r k = unit 7 (codes "MVS.MODIFY.JOB") name.value refl r.typed.3.2
needs_formed (Reply id text) kind line r k = fixed 4 (codes "MVS.REPLY") refl
needs_formed (VaryDeviceOnline device) kind line r k = fixed 5 (codes "MVS.VARY.DEV") refl
needs_formed (VaryDeviceOffline device) kind line r k = fixed 5 (codes "MVS.VARY.DEV") refl
needs_formed (VaryConsoleOnline console) kind line r k = fixed 9 (codes "MVS.VARY.CN") refl
needs_formed (VaryConsoleOffline console) kind line r k = fixed 9 (codes "MVS.VARY.CN") refl
needs_formed (VaryConsoleAuth console auth) kind line r k = fixed 10 (codes "MVS.VARYAUTH.CN") refl
needs_formed (Mount device volume) kind line r k = fixed 6 (codes "MVS.MOUNT") refl
needs_formed (Unload device) kind line r k = fixed 7 (codes "MVS.UNLOAD") refl
needs_formed (Swap from to) kind line r k = fixed 8 (codes "MVS.SWAP") refl
needs_formed (ResetConsole console) kind line r k = fixed 11 (codes "MVS.RESET.CN") refl
needs_formed (Send text user) kind line r k = fixed 12 (codes "MVS.SEND") refl
needs_formed (Log text) kind line r k = fixed 13 (codes "MVS.LOG") refl
needs_formed Monitor kind line r k = fixed 14 (codes "MVS.MONITOR") refl
needs_formed StopMonitor kind line r k = fixed 15 (codes "MVS.STOPMN") refl
needs_formed Halt kind line r k = fixed 16 (codes "MVS.HALT.EOD") refl
needs_formed (Logon user password) kind line r k = tt
needs_formed Logoff kind line r k = tt

asked_formed : (resource : List ℕ) → IsAsked resource → HasForm resource
asked_formed resource (inl n) =
    let formed : HasForm n.access.resource =
    subst (λ (o : Option Need). Formed o) n.needed (needs_formed n.command n.kind n.line n.reads n.of_kind) in
    subst (λ (r : List ℕ). HasForm r) n.on formed
asked_formed resource (inr (inl (name, h, e))) =
    subst (λ (r : List ℕ). HasForm r) (sym e) (unit 0 (codes "MVS.DISPLAY.JOB") name refl h)
asked_formed resource (inr (inr (name, h, e))) = inr (record {
  place = 1;
  words = codes "MVS.DISPLAY.CN";
  names = AnyConsole ∷ [];
  any = (tt, tt);
  at_place = refl;
  made = (name, h, e);
})

-- and a pattern that decides it decides a resource of this form
any_at : (test : List Qualifier → Bool) (forms : List (List Qualifier)) (i : ℕ) (fs : List Qualifier) → slice_get forms i ≡ Some fs
    → test fs ≡ true → list_any test forms ≡ true
any_at test [] i fs e h = cc
any_at test (gs ∷ forms) zero fs e h = or_left _ _ (ap test (same_Some gs fs e) ∙ h)
any_at test (gs ∷ forms) (suc i) fs e h = or_right _ _ (any_at test forms i fs e h)

formed_decides : (pattern : List ℕ) (before : List (List ℕ)) (resource : List ℕ) (forms : List (List Qualifier))
    → decides_parts pattern before (qualifiers resource) ≡ true → IsFormed forms resource
    → list_any (decides_of pattern before) forms ≡ true
formed_decides pattern before resource forms says f =
    any_at (decides_of pattern before) forms f.place (form f.words f.names) f.at_place
    (resource_some (form f.words f.names) (decides_parts pattern before) (qualifiers resource) (made_form f.words f.names resource f.any f.made) says)

pub decides_so : (pattern : List ℕ) (before : List (List ℕ)) → Decides pattern before → decides pattern before ≡ true
decides_so pattern before (resource, asked, covered, uncovered) =
    let says = parts_decide pattern before (qualifiers resource) covered uncovered in
    elim (asked_formed resource asked) [
      | inl f ↦ or_left _ _ (formed_decides pattern before resource fixed_forms says f)
      | inr f ↦ or_right _ _ (formed_decides pattern before resource named_forms says f)
    ]

pub forms_asked : FormsAreAsked
forms_asked pattern before = (λ h. so_decides pattern before h, λ h. decides_so pattern before h)

-- a pattern is met exactly if it decides where nothing comes before
pub met_decides : (pattern : List ℕ) → IsTrue (decides pattern []) ↔ IsMet pattern
met_decides pattern = (
  λ h. let decided = so_decides pattern [] h in (decided.0, decided.1, decided.2),
  λ m. decides_so pattern [] (m.0, m.1, m.2, tt),
)

-- of a pattern it is enough which resources that it covers are covered by what comes before
pub same_decides : (pattern : List ℕ) (before other : List (List ℕ))
    → ((resource : List ℕ) → covers_text pattern resource ≡ true
    → list_any (λ (q : List ℕ). covers_text q resource) before ≡ list_any (λ (q : List ℕ). covers_text q resource) other)
    → decides pattern before ≡ decides pattern other
same_decides pattern before other same =
    both_ways _ _ (λ h. decides_so pattern other (swapped before other same (so_decides pattern before h)))
    (λ h. decides_so pattern before (swapped other before (λ r c. sym (same r c)) (so_decides pattern other h)))
  where
    swapped : (xs ys : List (List ℕ)) → ((resource : List ℕ) → covers_text pattern resource ≡ true
        → list_any (λ (q : List ℕ). covers_text q resource) xs ≡ list_any (λ (q : List ℕ). covers_text q resource) ys)
        → Decides pattern xs → Decides pattern ys
    swapped xs ys alike (resource, asked, covered, uncovered) =
        let all = alike resource (covers_true pattern (qualifiers resource) covered) in
        (resource, asked, covered, covers_none ys (qualifiers resource) (sym all ∙ none_covers xs (qualifiers resource) uncovered))

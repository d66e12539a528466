-- Each need of a command has a form, and each form is asked about.
use Rattle.std.proofs.Common.{◌≡◌, ℕ, Bool, true, false, List, [], ◌∷◌, ◌++◌, map, codes, Option, Some, None, refl, subst, sym, ap}
use Rattle.std.specs.List.{AllByRecursion, slice_get}
use Rattle.opc_names.specs.declared.group.Group.{Group}
use Rattle.opc_names.specs.declared.group.Group.TheVariants.{Cons, Info, Io, Master, Sys}
use Rattle.opc_names.specs.declared.level.Level.{Level}
use Rattle.opc_names.specs.declared.level.Level.TheVariants.{Control, Read, Update}
use Rattle.opc_names.specs.Names.{qualifiers}
use Rattle.opc_terms.specs.declared.need.Need.{Need}
use Rattle.opc_terms.specs.declared.unit_kind.UnitKindAt.{UnitKindAt}
use Rattle.opc_terms.specs.declared.unit_kind.UnitKindAt.TheVariants.{Absent, Job, Stc, Tsu}
use Rattle.opc_reader_commands.specs.declared.command.Command.{Command}
use Rattle.opc_reader_commands.specs.declared.command.Command.TheVariants.{
  DisplayUnits,
  DisplayUnit,
  DisplayDevices,
  DisplayConsoles,
  DisplayReplies,
  Cancel,
  CancelUser,
  Force,
  Start,
  StartAs,
  Stop,
  Modify,
  Reply,
  VaryDeviceOnline,
  VaryDeviceOffline,
  VaryConsoleOnline,
  VaryConsoleOffline,
  VaryConsoleAuth,
  Mount,
  Unload,
  Swap,
  ResetConsole,
  Send,
  Log,
  Monitor,
  StopMonitor,
  Halt,
  Logon,
  Logoff,
}
use Rattle.opc_reader.specs.Lines.{Reads}
use Rattle.opc_table.specs.Table.{need, qualified, started}
use Rattle.opc_check_reach.specs.Forms as R
use Rattle.opc_check_reach.specs.Reach.{IsAsked, IsKind, ShowsConsole, ShowsUnit}
use Rattle.opc_check_reach.proofs.Asked.{fixed_asked, named_asked}
use Rattle.opc_check_reach.proofs.Texts.{IsAny, Made, made_form}
use Rattle.opc_check_reach.proofs.Typed.{IsUnitName}
use Rattle.opc_policy_deciders.specs.Forms.{AnyConsole, AnyUnit, AreOf, AskedForm, IsOf, Qualifier, Word, command, form, forms, line as line_form}
use Rattle.opc_answers_laws.specs.FormLaws.{
  ConsoleLinesHaveForms,
  FormsAreAskedAbout,
  HasForm,
  HasFormOfLine,
  HasFormOfNeed,
  IsAskedAbout,
  NeedsHaveForms,
  UnitLinesHaveForms,
}

-- the same qualifier of a form in both crates
abbrev same : R.Qualifier → Qualifier
same (R.Word text) = Word text
same R.AnyUnit = AnyUnit
same R.AnyConsole = AnyConsole

one_there : (q : R.Qualifier) (s : List ℕ) → R.IsOf q s → IsOf (same q) s
one_there (R.Word text) s is = is
one_there R.AnyUnit s is = is
one_there R.AnyConsole s is = is

one_back : (q : R.Qualifier) (s : List ℕ) → IsOf (same q) s → R.IsOf q s
one_back (R.Word text) s is = is
one_back R.AnyUnit s is = is
one_back R.AnyConsole s is = is

names_there : (fs : List R.Qualifier) (r : List (List ℕ)) → R.AreOf fs r → AreOf (map same fs) r
names_there [] [] are = tt
names_there [] (s ∷ r) are = absurd are
names_there (f ∷ fs) [] are = absurd are
names_there (f ∷ fs) (s ∷ r) are = (one_there f s are.0, names_there fs r are.1)

names_back : (fs : List R.Qualifier) (r : List (List ℕ)) → AreOf (map same fs) r → R.AreOf fs r
names_back [] [] are = tt
names_back [] (s ∷ r) are = absurd are
names_back (f ∷ fs) [] are = absurd are
names_back (f ∷ fs) (s ∷ r) are = (one_back f s are.0, names_back fs r are.1)

there : (ws : List (List ℕ)) (fs : List R.Qualifier) (r : List (List ℕ)) → R.AreOf (map R.Word ws ++ fs) r → AreOf (map Word ws ++ map same fs) r
there [] fs r are = names_there fs r are
there (w ∷ ws) fs [] are = absurd are
there (w ∷ ws) fs (s ∷ r) are = (are.0, there ws fs r are.1)

back_words : (ws : List (List ℕ)) (fs : List R.Qualifier) (r : List (List ℕ)) → AreOf (map Word ws ++ map same fs) r
    → R.AreOf (map R.Word ws ++ fs) r
back_words [] fs r are = names_back fs r are
back_words (w ∷ ws) fs [] are = absurd are
back_words (w ∷ ws) fs (s ∷ r) are = (are.0, back_words ws fs r are.1)

-- a resource made of words and names has the form
made : (words : List ℕ) (fs : List R.Qualifier) (resource : List ℕ) → AllByRecursion IsAny fs → Made words fs resource
    → AreOf (form words (map same fs)) (qualifiers resource)
made words fs resource any is = there (qualifiers words) fs (qualifiers resource) (made_form words fs resource any is)

abbrev needed : Level → Group → List ℕ → Need
needed level group resource = record { resource = resource; level = level; group = group }

fixed : (i : ℕ) (name : List ℕ) (level : Level) (group : Group) (words : List ℕ) → slice_get forms i ≡ Some (command name level group (form words []))
    → HasFormOfNeed (needed level group words)
fixed i name level group words e = record {
  found = record { place = i; form = command name level group (form words []); at_place = e; line = refl; of_form = made words [] words tt refl };
  level = refl;
  group = refl;
}

unit : (i : ℕ) (name : List ℕ) (level : Level) (group : Group) (words id : List ℕ)
    → slice_get forms i ≡ Some (command name level group (form words (AnyUnit ∷ []))) → IsUnitName id
    → HasFormOfNeed (needed level group (qualified words id))
unit i name level group words id e h = record {
  found = record {
    place = i;
    form = command name level group (form words (AnyUnit ∷ []));
    at_place = e;
    line = refl;
    of_form = made words (R.AnyUnit ∷ []) (qualified words id) (tt, tt) (id, h, refl);
  };
  level = refl;
  group = refl;
}

task : (i : ℕ) (name : List ℕ) (level : Level) (group : Group) (words member id : List ℕ)
    → slice_get forms i ≡ Some (command name level group (form words (AnyUnit ∷ AnyUnit ∷ []))) → IsUnitName member → IsUnitName id
    → HasFormOfNeed (needed level group (started words member id))
task i name level group words member id e h k = record {
  found = record {
    place = i;
    form = command name level group (form words (AnyUnit ∷ AnyUnit ∷ []));
    at_place = e;
    line = refl;
    of_form = made words (R.AnyUnit ∷ R.AnyUnit ∷ []) (started words member id) (tt, (tt, tt)) (member, h, (id, k, refl));
  };
  level = refl;
  group = refl;
}

-- by the table
abbrev Formed : Option Need → Type 0
Formed None = Unit {0}
Formed (Some a) = HasFormOfNeed a

needs_form : (c : Command) (kind : UnitKindAt) (line : List ℕ) → Reads line c → IsKind kind → Formed (need c kind)
needs_form DisplayUnits kind line r k = fixed 0 (codes "D A") Read Info (codes "MVS.DISPLAY.JOB") refl
needs_form (DisplayUnit name) kind line r k = fixed 0 (codes "D A") Read Info (codes "MVS.DISPLAY.JOB") refl
needs_form DisplayDevices kind line r k = fixed 1 (codes "D U") Read Info (codes "MVS.DISPLAY.U") refl
needs_form DisplayConsoles kind line r k = fixed 2 (codes "D C") Read Info (codes "MVS.DISPLAY.CN") refl
needs_form DisplayReplies kind line r k = fixed 3 (codes "D R") Read Info (codes "MVS.DISPLAY.R") refl
needs_form (Cancel name) Absent line r k = unit 6 (codes "C JOB") Update Sys (codes "MVS.CANCEL.JOB") name.value refl r.typed.3.2
needs_form (Cancel name) Job line r k = unit 6 (codes "C JOB") Update Sys (codes "MVS.CANCEL.JOB") name.value refl r.typed.3.2
needs_form (Cancel name) (Stc member) line r k = task 7 (codes "C STC") Update Sys (codes "MVS.CANCEL.STC") member name.value refl k r.typed.3.2
needs_form (Cancel name) Tsu line r k = unit 6 (codes "C JOB") Update Sys (codes "MVS.CANCEL.JOB") name.value refl r.typed.3.2
needs_form (CancelUser user) kind line r k = unit 8 (codes "C TSU") Update Sys (codes "MVS.CANCEL.TSU") user.value refl r.typed.4.3.2
needs_form (Force name) Absent line r k = unit 9 (codes "FORCE JOB") Control Master (codes "MVS.FORCE.JOB") name.value refl r.typed.3.2
needs_form (Force name) Job line r k = unit 9 (codes "FORCE JOB") Control Master (codes "MVS.FORCE.JOB") name.value refl r.typed.3.2
needs_form (Force name) (Stc member) line r k = task 10 (codes "FORCE STC") Control Master (codes "MVS.FORCE.STC") member name.value refl k r.typed.3.2
needs_form (Force name) Tsu line r k = unit 11 (codes "FORCE TSU") Control Master (codes "MVS.FORCE.TSU") name.value refl r.typed.3.2
needs_form (Start member) kind line r k = task 12 (codes "S") Update Sys (codes "MVS.START.STC") member.value member.value refl r.typed.3.2 r.typed.3.2
needs_form (StartAs member id) kind line r k = task 12 (codes "S") Update Sys (codes "MVS.START.STC") member.value id.value refl r.typed.3.2 r.typed.4.4.3.2
needs_form (Stop name) Absent line r k = unit 13 (codes "P JOB") Update Sys (codes "MVS.STOP.JOB") name.value refl r.typed.3.2
needs_form (Stop name) Job line r k = unit 13 (codes "P JOB") Update Sys (codes "MVS.STOP.JOB") name.value refl r.typed.3.2
needs_form (Stop name) (Stc member) line r k = task 14 (codes "P STC") Update Sys (codes "MVS.STOP.STC") member name.value refl k r.typed.3.2
needs_form (Stop name) Tsu line r k = unit 13 (codes "P JOB") Update Sys (codes "MVS.STOP.JOB") name.value refl r.typed.3.2
needs_form (Modify name text) Absent line r k = unit 15 (codes "F JOB") Update Sys (codes "MVS.MODIFY.JOB") name.value refl r.typed.3.2
needs_form (Modify name text) Job line r k = unit 15 (codes "F JOB") Update Sys (codes "MVS.MODIFY.JOB") name.value refl r.typed.3.2
needs_form (Modify name text) (Stc member) line r k = task 16 (codes "F STC") Update Sys (codes "MVS.MODIFY.STC") member name.value refl k r.typed.3.2
needs_form (Modify name text) Tsu line r k = unit 15 (codes "F JOB") Update Sys (codes "MVS.MODIFY.JOB") name.value refl r.typed.3.2
needs_form (Reply id text) kind line r k = fixed 17 (codes "R") Read Info (codes "MVS.REPLY") refl
needs_form (VaryDeviceOnline device) kind line r k = fixed 18 (codes "V dev") Update Io (codes "MVS.VARY.DEV") refl
needs_form (VaryDeviceOffline device) kind line r k = fixed 18 (codes "V dev") Update Io (codes "MVS.VARY.DEV") refl
needs_form (VaryConsoleOnline console) kind line r k = fixed 22 (codes "V CN") Update Cons (codes "MVS.VARY.CN") refl
needs_form (VaryConsoleOffline console) kind line r k = fixed 22 (codes "V CN") Update Cons (codes "MVS.VARY.CN") refl
needs_form (VaryConsoleAuth console auth) kind line r k = fixed 23 (codes "V CN AUTH") Control Master (codes "MVS.VARYAUTH.CN") refl
needs_form (Mount device volume) kind line r k = fixed 19 (codes "M") Update Io (codes "MVS.MOUNT") refl
needs_form (Unload device) kind line r k = fixed 20 (codes "U") Update Io (codes "MVS.UNLOAD") refl
needs_form (Swap from to) kind line r k = fixed 21 (codes "G") Update Io (codes "MVS.SWAP") refl
needs_form (ResetConsole console) kind line r k = fixed 24 (codes "E") Control Master (codes "MVS.RESET.CN") refl
needs_form (Send text user) kind line r k = fixed 25 (codes "SE") Read Info (codes "MVS.SEND") refl
needs_form (Log text) kind line r k = fixed 26 (codes "L") Read Info (codes "MVS.LOG") refl
needs_form Monitor kind line r k = fixed 27 (codes "MN") Read Info (codes "MVS.MONITOR") refl
needs_form StopMonitor kind line r k = fixed 28 (codes "PM") Read Info (codes "MVS.STOPMN") refl
needs_form Halt kind line r k = fixed 29 (codes "Z") Update Sys (codes "MVS.HALT.EOD") refl
needs_form (Logon user password) kind line r k = tt
needs_form Logoff kind line r k = tt

pub needs_have_forms : NeedsHaveForms
needs_have_forms line c kind access reads of_kind e = subst (λ (o : Option Need). Formed o) e (needs_form c kind line reads of_kind)

-- the lines of answers
pub unit_lines : UnitLinesHaveForms
unit_lines resource (name, h, e) = record {
  found = record {
    place = 4;
    form = line_form (codes "unit line") Read Info (form (codes "MVS.DISPLAY.JOB") (AnyUnit ∷ []));
    at_place = refl;
    line = refl;
    of_form = made (codes "MVS.DISPLAY.JOB") (R.AnyUnit ∷ []) resource (tt, tt) (name, h, e);
  };
  level = refl;
}

pub console_lines : ConsoleLinesHaveForms
console_lines resource (name, h, e) = record {
  found = record {
    place = 5;
    form = line_form (codes "console line") Read Info (form (codes "MVS.DISPLAY.CN") (AnyConsole ∷ []));
    at_place = refl;
    line = refl;
    of_form = made (codes "MVS.DISPLAY.CN") (R.AnyConsole ∷ []) resource (tt, tt) (name, h, e);
  };
  level = refl;
}

-- what has a form is asked about
back : (words : List ℕ) (fs : List R.Qualifier)
    → ((r : List (List ℕ)) → R.AreOf (R.form words fs) r → (resource : List ℕ) × IsAsked resource × (qualifiers resource ≡ r))
    → (r : List (List ℕ)) → AreOf (form words (map same fs)) r → (resource : List ℕ) × IsAsked resource × (qualifiers resource ≡ r)
back words fs asked r are = asked r (back_words (qualifiers words) fs r are)

pub forms_are_asked_about : FormsAreAskedAbout
forms_are_asked_about = (
  back (codes "MVS.DISPLAY.JOB") [] fixed_asked.0,
  (
    back (codes "MVS.DISPLAY.U") [] fixed_asked.1.0,
    (
      back (codes "MVS.DISPLAY.CN") [] fixed_asked.1.1.0,
      (
        back (codes "MVS.DISPLAY.R") [] fixed_asked.1.1.1.0,
        (
          back (codes "MVS.DISPLAY.JOB") (R.AnyUnit ∷ []) named_asked.0,
          (
            back (codes "MVS.DISPLAY.CN") (R.AnyConsole ∷ []) named_asked.1.0,
            (
              back (codes "MVS.CANCEL.JOB") (R.AnyUnit ∷ []) named_asked.1.1.0,
              (
                back (codes "MVS.CANCEL.STC") (R.AnyUnit ∷ R.AnyUnit ∷ []) named_asked.1.1.1.1.1.1.1.1.1.0,
                (
                  back (codes "MVS.CANCEL.TSU") (R.AnyUnit ∷ []) named_asked.1.1.1.0,
                  (
                    back (codes "MVS.FORCE.JOB") (R.AnyUnit ∷ []) named_asked.1.1.1.1.0,
                    (
                      back (codes "MVS.FORCE.STC") (R.AnyUnit ∷ R.AnyUnit ∷ []) named_asked.1.1.1.1.1.1.1.1.1.1.0,
                      (
                        back (codes "MVS.FORCE.TSU") (R.AnyUnit ∷ []) named_asked.1.1.1.1.1.0,
                        (
                          back (codes "MVS.START.STC") (R.AnyUnit ∷ R.AnyUnit ∷ []) named_asked.1.1.1.1.1.1.1.1.0,
                          (
                            back (codes "MVS.STOP.JOB") (R.AnyUnit ∷ []) named_asked.1.1.1.1.1.1.0,
                            (
                              back (codes "MVS.STOP.STC") (R.AnyUnit ∷ R.AnyUnit ∷ []) named_asked.1.1.1.1.1.1.1.1.1.1.1.0,
                              (
                                back (codes "MVS.MODIFY.JOB") (R.AnyUnit ∷ []) named_asked.1.1.1.1.1.1.1.0,
                                (
                                  back (codes "MVS.MODIFY.STC") (R.AnyUnit ∷ R.AnyUnit ∷ []) named_asked.1.1.1.1.1.1.1.1.1.1.1.1.0,
                                  (
                                    back (codes "MVS.REPLY") [] fixed_asked.1.1.1.1.0,
                                    (
                                      back (codes "MVS.VARY.DEV") [] fixed_asked.1.1.1.1.1.0,
                                      (
                                        back (codes "MVS.MOUNT") [] fixed_asked.1.1.1.1.1.1.0,
                                        (
                                          back (codes "MVS.UNLOAD") [] fixed_asked.1.1.1.1.1.1.1.0,
                                          (
                                            back (codes "MVS.SWAP") [] fixed_asked.1.1.1.1.1.1.1.1.0,
                                            (
                                              back (codes "MVS.VARY.CN") [] fixed_asked.1.1.1.1.1.1.1.1.1.0,
                                              (
                                                back (codes "MVS.VARYAUTH.CN") [] fixed_asked.1.1.1.1.1.1.1.1.1.1.0,
                                                (
                                                  back (codes "MVS.RESET.CN") [] fixed_asked.1.1.1.1.1.1.1.1.1.1.1.0,
                                                  (
                                                    back (codes "MVS.SEND") [] fixed_asked.1.1.1.1.1.1.1.1.1.1.1.1.0,
                                                    (
                                                      back (codes "MVS.LOG") [] fixed_asked.1.1.1.1.1.1.1.1.1.1.1.1.1.0,
                                                      (
                                                        back (codes "MVS.MONITOR") [] fixed_asked.1.1.1.1.1.1.1.1.1.1.1.1.1.1.0,
                                                        (
                                                          back (codes "MVS.STOPMN") [] fixed_asked.1.1.1.1.1.1.1.1.1.1.1.1.1.1.1.0,
                                                          (
                                                            back (codes "MVS.HALT.EOD") [] fixed_asked.1.1.1.1.1.1.1.1.1.1.1.1.1.1.1.1.0,
                                                            tt,
                                                          ),
                                                        ),
                                                      ),
                                                    ),
                                                  ),
                                                ),
                                              ),
                                            ),
                                          ),
                                        ),
                                      ),
                                    ),
                                  ),
                                ),
                              ),
                            ),
                          ),
                        ),
                      ),
                    ),
                  ),
                ),
              ),
            ),
          ),
        ),
      ),
    ),
  ),
)

-- The forms of the resources of class OPERCMDS about which the gate asks.
use Rattle.std.specs.Prelude.{◌≡◌, ℕ, Bool, true, false, List, [], ◌∷◌, ◌++◌, map, codes, None, ⊤}
use Rattle.std.specs.List.{AllByRecursion}
use Rattle.opc_names.specs.Names.{console_rule, name_fault, qualifiers, unit_rule}
use Rattle.opc_names.specs.declared.group.Group.{Group}
use Rattle.opc_names.specs.declared.group.Group.TheVariants.{Cons, Info, Io, Master, Sys}
use Rattle.opc_names.specs.declared.level.Level.{Level}
use Rattle.opc_names.specs.declared.level.Level.TheVariants.{Control, Read, Update}
use Rattle.opc_policy_witness.specs.declared.forms.FormQualifier.{FormQualifier}
use Rattle.opc_policy_witness.specs.declared.forms.FormQualifier.TheVariants as part
use Rattle.opc_policy_witness.specs.Forms.{IsForm}
use Rattle.opc_policy_deciders.specs.declared.form.ResourceForm.{ResourceForm}

-- a qualifier of a resource, as it stands in a form: a fixed word, or any name of a unit or of a console
pub data Qualifier : Type 0 where
  Word : List ℕ → Qualifier
  AnyUnit : Qualifier
  AnyConsole : Qualifier

abbrev pub IsOf : Qualifier → List ℕ → Type 0
IsOf (Word text) s = s ≡ text
IsOf AnyUnit s = name_fault unit_rule s ≡ None
IsOf AnyConsole s = name_fault console_rule s ≡ None

abbrev pub AreOf : List Qualifier → List (List ℕ) → Type 0
AreOf [] [] = ⊤
AreOf [] (s ∷ r) = ⊥
AreOf (q ∷ form) [] = ⊥
AreOf (q ∷ form) (s ∷ r) = IsOf q s × AreOf form r

-- some words, and names after them
abbrev pub form : List ℕ → List Qualifier → List Qualifier
form words names = map Word (qualifiers words) ++ names

-- a form: its name in lists, the level and the group of the commands that ask about its resources, whether showing a
-- line asks about them, and what they look like
pub record AskedForm : Type 0 where
  pub name : List ℕ
  pub level : Level
  pub group : Group
  pub is_line : Bool
  pub qualifiers : List Qualifier

abbrev pub command : (name : List ℕ) → Level → Group → List Qualifier → AskedForm
command name level group form =
    record { name = name; level = level; group = group; is_line = false; qualifiers = form }

abbrev pub line : (name : List ℕ) → Level → Group → List Qualifier → AskedForm
line name level group form =
    record { name = name; level = level; group = group; is_line = true; qualifiers = form }

-- in the order of the command table
abbrev pub forms : List AskedForm
forms =
    command (codes "D A") Read Info (form (codes "MVS.DISPLAY.JOB") [])
    ∷ command (codes "D U") Read Info (form (codes "MVS.DISPLAY.U") [])
    ∷ command (codes "D C") Read Info (form (codes "MVS.DISPLAY.CN") [])
    ∷ command (codes "D R") Read Info (form (codes "MVS.DISPLAY.R") [])
    ∷ line (codes "unit line") Read Info (form (codes "MVS.DISPLAY.JOB") (AnyUnit ∷ []))
    ∷ line (codes "console line") Read Info (form (codes "MVS.DISPLAY.CN") (AnyConsole ∷ []))
    ∷ command (codes "C JOB") Update Sys (form (codes "MVS.CANCEL.JOB") (AnyUnit ∷ []))
    ∷ command (codes "C STC") Update Sys (form (codes "MVS.CANCEL.STC") (AnyUnit ∷ AnyUnit ∷ []))
    ∷ command (codes "C TSU") Update Sys (form (codes "MVS.CANCEL.TSU") (AnyUnit ∷ []))
    ∷ command (codes "FORCE JOB") Control Master (form (codes "MVS.FORCE.JOB") (AnyUnit ∷ []))
    ∷ command (codes "FORCE STC") Control Master (form (codes "MVS.FORCE.STC") (AnyUnit ∷ AnyUnit ∷ []))
    ∷ command (codes "FORCE TSU") Control Master (form (codes "MVS.FORCE.TSU") (AnyUnit ∷ []))
    ∷ command (codes "S") Update Sys (form (codes "MVS.START.STC") (AnyUnit ∷ AnyUnit ∷ []))
    ∷ command (codes "P JOB") Update Sys (form (codes "MVS.STOP.JOB") (AnyUnit ∷ []))
    ∷ command (codes "P STC") Update Sys (form (codes "MVS.STOP.STC") (AnyUnit ∷ AnyUnit ∷ []))
    ∷ command (codes "F JOB") Update Sys (form (codes "MVS.MODIFY.JOB") (AnyUnit ∷ []))
    ∷ command (codes "F STC") Update Sys (form (codes "MVS.MODIFY.STC") (AnyUnit ∷ AnyUnit ∷ []))
    ∷ command (codes "R") Read Info (form (codes "MVS.REPLY") [])
    ∷ command (codes "V dev") Update Io (form (codes "MVS.VARY.DEV") [])
    ∷ command (codes "M") Update Io (form (codes "MVS.MOUNT") [])
    ∷ command (codes "U") Update Io (form (codes "MVS.UNLOAD") [])
    ∷ command (codes "G") Update Io (form (codes "MVS.SWAP") [])
    ∷ command (codes "V CN") Update Cons (form (codes "MVS.VARY.CN") [])
    ∷ command (codes "V CN AUTH") Control Master (form (codes "MVS.VARYAUTH.CN") [])
    ∷ command (codes "E") Control Master (form (codes "MVS.RESET.CN") [])
    ∷ command (codes "SE") Read Info (form (codes "MVS.SEND") [])
    ∷ command (codes "L") Read Info (form (codes "MVS.LOG") [])
    ∷ command (codes "MN") Read Info (form (codes "MVS.MONITOR") [])
    ∷ command (codes "PM") Read Info (form (codes "MVS.STOPMN") [])
    ∷ command (codes "Z") Update Sys (form (codes "MVS.HALT.EOD") [])
    ∷ []

-- forms as the code has them
abbrev pub shape : FormQualifier → Qualifier
shape (part.Word text) = Word text.now
shape part.AnyUnit = AnyUnit
shape part.AnyConsole = AnyConsole

abbrev pub asked : ResourceForm → AskedForm
asked f = record {
  name = f.name.now;
  level = f.level;
  group = f.group;
  is_line = f.is_line;
  qualifiers = map shape f.qualifiers.now;
}

abbrev pub AreForms : List ResourceForm → Type 0
AreForms list = AllByRecursion (λ (f : ResourceForm). IsForm f.qualifiers.now) list

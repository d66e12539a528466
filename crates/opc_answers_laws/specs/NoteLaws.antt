-- What notes mean to those who write a policy: they are about what is stored, and N17 and N20 are about what decides
-- nothing.
use Rattle.std.specs.Prelude.{◌≡◌, ◌↔◌, ℕ, Bool, true, List, None, Ok}
use Rattle.std.specs.List.{AllByRecursion}
use Rattle.opc_names.specs.declared.class.Class.TheVariants.{Opercmds}
use Rattle.opc_names.specs.declared.level.Level.{Level}
use Rattle.opc_names.specs.Names.{IsPattern}
use Rattle.opc_policy_members.specs.declared.row.Row.{Row}
use Rattle.opc_policy_members.specs.declared.row.Row.TheVariants as rows
use Rattle.opc_state.specs.State.{State, empty}
use Rattle.opc_machine.specs.Bootstrap.{bootstrapped}
use Rattle.opc_machine_laws.specs.RowLaws.{IsWritten}
use Rattle.opc_check_notes.specs.declared.numbered.NumberedRow.{NumberedRow}
use Rattle.opc_check_notes.specs.Notes.{never_decides, no_resource}
use Rattle.opc_check_notes.specs.Preceding.{all_before}
use Rattle.opc_check_reach.specs.Reach.{Decides, IsMet}
use Rattle.opc_answers_laws.specs.Stored.{IsInEffect, IsStored}

-- If a file is loaded as a first policy, each of its rows in effect is stored.
abbrev pub RowsInEffectAreStored : Type 0
RowsInEffectAreStored = (all : List Row) (s : State) → AllByRecursion IsWritten all → bootstrapped all empty ≡ Ok s
    → (row : Row) → IsInEffect all row → IsStored s row

-- a class is inactive unless a row makes it active
abbrev pub IsMade : Row → Type 0
IsMade (rows.Class class active) = active ≡ true
IsMade other = Unit {0}

-- And nothing else is stored.
abbrev pub StoredRowsAreInEffect : Type 0
StoredRowsAreInEffect = (all : List Row) (s : State) → AllByRecursion IsWritten all → bootstrapped all empty ≡ Ok s
    → (row : Row) → IsMade row → IsStored s row → IsInEffect all row

-- A profile of OPERCMDS is without N17 exactly if its pattern covers a resource about which the gate asks.
abbrev pub NotedUnlessMet : Type 0
NotedUnlessMet = (pattern : List ℕ) (uacc : Level) (owner : List ℕ) (warns : Bool) → IsPattern pattern
    → (no_resource (rows.Profile Opercmds pattern uacc owner warns) ≡ None) ↔ IsMet pattern

-- One that covers such a resource is without N20 exactly if it decides one, among these rows in effect.
abbrev pub NotedUnlessDeciding : Type 0
NotedUnlessDeciding = (list : List NumberedRow) (pattern : List ℕ) (uacc : Level) (owner : List ℕ) (warns : Bool)
    → IsMet pattern → (never_decides list (rows.Profile Opercmds pattern uacc owner warns) ≡ None)
    ↔ Decides pattern (all_before list pattern)

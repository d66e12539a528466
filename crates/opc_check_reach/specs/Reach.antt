-- The resources of class OPERCMDS about which the gate asks, and the patterns that cover one of them.
use Rattle.std.specs.Prelude.{◌≡◌, ℕ, List, ◌⊎◌, ⊤, Some, None, codes}
use Rattle.std.specs.List.{AllByRecursion}
use Rattle.opc_names.specs.Names.{name_fault, unit_rule, console_rule}
use Rattle.opc_names.specs.Patterns.{CoversText}
use Rattle.opc_terms.specs.declared.need.Need.{Need}
use Rattle.opc_terms.specs.declared.unit_kind.UnitKindAt.{UnitKindAt}
use Rattle.opc_terms.specs.declared.unit_kind.UnitKindAt.TheVariants.{Absent, Job, Stc, Tsu}
use Rattle.opc_reader_commands.specs.declared.command.Command.{Command}
use Rattle.opc_reader.specs.Lines.{Reads}
use Rattle.opc_table.specs.Table.{need, qualified}

-- what a unit can be: the member of a started task has the name of a unit
abbrev pub IsKind : UnitKindAt → Type 0
IsKind Absent = ⊤
IsKind Job = ⊤
IsKind (Stc member) = name_fault unit_rule member ≡ None
IsKind Tsu = ⊤

-- A command needs it: some line is read as the command, which needs it if the unit that it names is of some kind.
pub record IsNeeded (resource : List ℕ) : Type 0 where
  pub line : List ℕ
  pub command : Command
  pub kind : UnitKindAt
  pub access : Need
  pub reads : Reads line command
  pub of_kind : IsKind kind
  pub needed : need command kind ≡ Some access
  pub on : access.resource ≡ resource

-- a unit's line or a console's line in an answer is shown to those who may read it
abbrev pub ShowsUnit : List ℕ → Type 0
ShowsUnit resource =
    (name : List ℕ) × (name_fault unit_rule name ≡ None) × (resource ≡ qualified (codes "MVS.DISPLAY.JOB") name)

abbrev pub ShowsConsole : List ℕ → Type 0
ShowsConsole resource =
    (name : List ℕ) × (name_fault console_rule name ≡ None) × (resource ≡ qualified (codes "MVS.DISPLAY.CN") name)

-- the gate asks about it: a command needs it, or showing a line does
abbrev pub IsAsked : List ℕ → Type 0
IsAsked resource = IsNeeded resource ⊎ (ShowsUnit resource ⊎ ShowsConsole resource)

-- the pattern covers a resource about which the gate asks
abbrev pub IsMet : List ℕ → Type 0
IsMet pattern = (resource : List ℕ) × IsAsked resource × CoversText pattern resource

-- it decides such a resource, if these come before it: it covers the resource, and none of them does
abbrev pub Decides : (pattern : List ℕ) → (before : List (List ℕ)) → Type 0
Decides pattern before = (resource : List ℕ) × IsAsked resource × CoversText pattern resource
    × AllByRecursion (λ (other : List ℕ). CoversText other resource → ⊥) before

-- The forms of opc_policy_deciders are those of the command table.
use Rattle.std.specs.Prelude.{◌≡◌, ℕ, Bool, true, false, List, Some}
use Rattle.std.specs.List.{AllByRecursion, slice_get}
use Rattle.opc_names.specs.declared.level.Level.TheVariants.{Read}
use Rattle.opc_names.specs.Names.{qualifiers}
use Rattle.opc_terms.specs.declared.need.Need.{Need}
use Rattle.opc_terms.specs.declared.unit_kind.UnitKindAt.{UnitKindAt}
use Rattle.opc_reader_commands.specs.declared.command.Command.{Command}
use Rattle.opc_reader.specs.Lines.{Reads}
use Rattle.opc_table.specs.Table.{need}
use Rattle.opc_check_reach.specs.Reach.{IsAsked, IsKind, ShowsConsole, ShowsUnit}
use Rattle.opc_policy_deciders.specs.Forms.{AreOf, AskedForm, forms}

-- one of the forms has the resource
pub record HasForm (is_line : Bool) (resource : List ℕ) : Type 0 where
  pub place : ℕ
  pub form : AskedForm
  pub at_place : slice_get forms place ≡ Some form
  pub line : form.is_line ≡ is_line
  pub of_form : AreOf form.qualifiers (qualifiers resource)

-- What a command needs has a form of commands, on the level and of the group that the command needs.
pub record HasFormOfNeed (access : Need) : Type 0 where
  pub found : HasForm false access.resource
  pub level : found.form.level ≡ access.level
  pub group : found.form.group ≡ access.group

abbrev pub NeedsHaveForms : Type 0
NeedsHaveForms = (line : List ℕ) (command : Command) (kind : UnitKindAt) (access : Need) → Reads line command
    → IsKind kind → need command kind ≡ Some access → HasFormOfNeed access

-- What showing a line needs has a form of lines, on the level READ.
pub record HasFormOfLine (resource : List ℕ) : Type 0 where
  pub found : HasForm true resource
  pub level : found.form.level ≡ Read

abbrev pub UnitLinesHaveForms : Type 0
UnitLinesHaveForms = (resource : List ℕ) → ShowsUnit resource → HasFormOfLine resource

abbrev pub ConsoleLinesHaveForms : Type 0
ConsoleLinesHaveForms = (resource : List ℕ) → ShowsConsole resource → HasFormOfLine resource

-- And each resource of a form is one about which the gate asks.
abbrev pub IsAskedAbout : AskedForm → Type 0
IsAskedAbout form = (parts : List (List ℕ)) → AreOf form.qualifiers parts
    → (resource : List ℕ) × IsAsked resource × (qualifiers resource ≡ parts)

abbrev pub FormsAreAskedAbout : Type 0
FormsAreAskedAbout = AllByRecursion IsAskedAbout forms

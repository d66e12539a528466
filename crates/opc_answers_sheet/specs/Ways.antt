-- How users may: by which source, at every console or by an entry for one alone, and whether only by a warning.
use Rattle.std.specs.Prelude.{
  ◌&&◌,
  ◌++◌,
  ℕ,
  Bool,
  true,
  false,
  not,
  List,
  [],
  ◌∷◌,
  Option,
  Some,
  None,
  filter,
  if◌then◌else◌,
  map,
}
use Rattle.std.specs.Option.{option_and_then, option_eq, option_map_or}
use Rattle.std.specs.Str.{bytes_eq}
use Rattle.opc_policy.specs.declared.ruling.Ruling.{Ruling}
use Rattle.opc_policy.specs.Rulings.{rule_of}
use Rattle.opc_policy_members.specs.Members.{with_group}
use Rattle.opc_policy_sources.specs.declared.sources.HeldLevel.{HeldLevel}
use Rattle.opc_policy_sources.specs.declared.sources.LevelSource.{LevelSource}
use Rattle.opc_policy_sources.specs.declared.sources.LevelSource.TheVariants as source
use Rattle.opc_machine.specs.Machine.{is_warned}
use Rattle.opc_answers.specs.declared.lines.UserLine.{UserLine}
use Rattle.opc_answers.specs.Texts.{may}
use Rattle.opc_answers_sheet.specs.declared.ways.Way.{Way}

abbrev pub same_source : LevelSource → LevelSource → Bool
same_source source.Own source.Own = true
same_source (source.Group name) (source.Group other) = bytes_eq name other
same_source source.Everyone source.Everyone = true
same_source source.Universal source.Universal = true
same_source source.Restricted source.Restricted = true
same_source source other = false

-- without a level, no profile decides
abbrev pub has_source : Option LevelSource → Option HeldLevel → Bool
has_source None None = true
has_source (Some source) (Some held) = same_source source held.source
has_source source held = false

-- the console for which alone the entry is that gives a level
abbrev pub console_of : Option HeldLevel → Option (List ℕ)
console_of held = option_and_then (λ (h : HeldLevel). h.when) held

abbrev pub is_as : (wanted is : Bool) → Bool
is_as wanted is = if wanted then is else not is

abbrev pub is_by_warning : Option Ruling → Bool
is_by_warning ruling = option_map_or (λ (r : Ruling). is_warned (Some (rule_of r))) ruling false

-- whether a user may, and in this way
abbrev pub may_by : Way → UserLine → Bool
may_by way line = may line && (has_source way.source line.held
    && (option_eq bytes_eq (console_of line.held) way.console && is_as way.warned (is_by_warning line.ruling)))

-- the users of whom this holds, and the others
abbrev pub ids_by : (wanted : Bool) → Way → List UserLine → List (List ℕ)
ids_by wanted way lines =
    map (λ (line : UserLine). line.id) (filter (λ (line : UserLine). is_as wanted (may_by way line)) lines)

-- the groups that give a level in these lines
abbrev pub with_source : LevelSource → List (List ℕ) → List (List ℕ)
with_source (source.Group name) groups = with_group name groups
with_source other groups = groups

abbrev pub with_held : Option HeldLevel → List (List ℕ) → List (List ℕ)
with_held None groups = groups
with_held (Some held) groups = with_source held.source groups

abbrev pub groups_after : List UserLine → List (List ℕ) → List (List ℕ)
groups_after [] groups = groups
groups_after (line ∷ more) groups = groups_after more (with_held line.held groups)

-- the sources in the order of a page: the users' own entries, those of groups by name, and what is given to everyone
abbrev pub group_source : (name : List ℕ) → Option LevelSource
group_source name = Some (source.Group name)

abbrev pub sources_of : (groups : List (List ℕ)) → List (Option LevelSource)
sources_of groups = Some source.Own ∷ (map group_source groups
    ++ Some source.Everyone ∷ Some source.Universal ∷ Some source.Restricted ∷ None ∷ [])

abbrev pub way : (console : Option (List ℕ)) → (warned : Bool) → Option LevelSource → Way
way console warned source = record { source = source; console = console; warned = warned }

-- The subject of `opcmds explain` and `opcmds who`, by the values of their options.
use Rattle.std.specs.Prelude.{
  ◌≡◌,
  ◌||◌,
  ℕ,
  Bool,
  false,
  List,
  [],
  ◌∷◌,
  ◌++◌,
  Option,
  Some,
  None,
  is_none,
  is_some,
  not,
  unwrap_or,
}
use Rattle.std.specs.Option.{option_map_or}
use Rattle.opc_answers.specs.Needed.{is_logon}
use Rattle.opc_answers.specs.Taken.{kind_of}
use Rattle.opc_answers.specs.declared.question.About.{About}
use Rattle.opc_answers.specs.declared.question.About.TheVariants.{Command, Access}
use Rattle.opc_names.specs.Names.{name_fault, resource_rule}
use Rattle.opc_names.specs.Spellings.{classes, levels, lookup}
use Rattle.opc_names.specs.declared.rule.NameRule.{NameRule}
use Rattle.opc_terms.specs.declared.unit_kind.UnitKindAt.{UnitKindAt}
use Rattle.opc_terms.specs.declared.unit_kind.UnitKindAt.TheVariants.{Absent}
use Rattle.opc_cli_words.specs.Checks.{Check}
use Rattle.opc_cli_words.specs.declared.mistake.Mistake.TheVariants as wrong
use Rattle.opc_cli_words.specs.declared.mistake.Opt.TheVariants as opt

abbrev pub is_a : NameRule → List ℕ → Bool
is_a rule text = is_none (name_fault rule text)

-- no unit is on the board if none is written
abbrev pub kind_given : (kind : Option (List ℕ)) → Option UnitKindAt
kind_given kind = option_map_or kind_of kind (Some Absent)

abbrev pub kind_check : (kind : Option (List ℕ)) → Check
kind_check kind = (wrong.Unread opt.As, is_some (kind_given kind))

abbrev pub class_check : (class : List ℕ) → Check
class_check class = (wrong.Unread opt.Class, is_some (lookup classes class))

abbrev pub resource_check : (resource : Option (List ℕ)) → Check
resource_check resource = (wrong.Unread opt.Resource, is_a resource_rule (unwrap_or resource []))

abbrev pub level_check : (level : Option (List ℕ)) → Check
level_check level = (wrong.Unread opt.Level, is_some (lookup levels (unwrap_or level [])))

-- exactly one of a command and a resource is given,
abbrev pub one_question : Bool → Check
one_question is_one = (wrong.NotOneQuestion, is_one)

-- with a command a kind of unit, if any, and no level,
abbrev pub command_checks : (kind resource level : Option (List ℕ)) → List Check
command_checks kind resource level =
    one_question (is_none resource)
    ∷ (wrong.Lacks opt.Level opt.Resource, is_none level)
    ∷ kind_check kind
    ∷ []

-- and with a resource a level, and no kind of unit
abbrev pub access_checks : (kind resource level : Option (List ℕ)) → List Check
access_checks kind resource level =
    one_question (is_some resource)
    ∷ (wrong.Lacks opt.As opt.Command, is_none kind)
    ∷ (wrong.Lacks opt.Resource opt.Level, is_some level)
    ∷ []

abbrev pub enquiry_checks : (command kind resource level : Option (List ℕ)) → (class : List ℕ) → List Check
enquiry_checks (Some text) kind resource level class = command_checks kind resource level
enquiry_checks None kind resource level class =
    access_checks kind resource level ++ class_check class ∷ resource_check resource ∷ level_check level ∷ []

-- A question about a LOGON needs a console.
abbrev pub logon_check : (command console : Option (List ℕ)) → Check
logon_check command console = (wrong.LogonNowhere, not (option_map_or is_logon command false) || is_some console)

-- The question is about the command that is given, or about the level of access.
abbrev pub IsAbout : (command kind resource level : Option (List ℕ)) → (class : List ℕ) → About → Type 0
IsAbout command kind resource level class (Command text unit) =
    (command ≡ Some text.now) × (kind_given kind ≡ Some unit)
IsAbout command kind resource level class (Access of name needed) =
    (command ≡ None) × (lookup classes class ≡ Some of) × (unwrap_or resource [] ≡ name)
    × (lookup levels (unwrap_or level []) ≡ Some needed)

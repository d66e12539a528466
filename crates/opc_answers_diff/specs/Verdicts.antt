-- Of which users something else is said where two profiles decide, one before and one after.
use Rattle.std.specs.Prelude.{
  ◌&&◌,
  ◌||◌,
  ℕ,
  Bool,
  false,
  true,
  List,
  [],
  ◌∷◌,
  ◌++◌,
  Option,
  Some,
  None,
  codes,
  filter,
  if◌then◌else◌,
  map,
  not,
}
use Rattle.std.specs.BTreeSet.{insert_key}
use Rattle.std.specs.List.{flat_map}
use Rattle.std.specs.Option.{option_map, option_map_or}
use Rattle.std.specs.Str.{bytes_eq}
use Rattle.opc_names.specs.declared.level.Level.{Level}
use Rattle.opc_names.specs.declared.level.Level.TheVariants.{Read}
use Rattle.opc_policy_members.specs.declared.entry.Entry.{Entry}
use Rattle.opc_policy_members.specs.declared.profile.Profile.{Profile}
use Rattle.opc_policy_members.specs.Members.{name_cmp}
use Rattle.opc_answers.specs.declared.lines.UserLine.{UserLine}
use Rattle.opc_answers.specs.declared.logons.Instead.TheVariants.{Hidden}
use Rattle.opc_answers.specs.declared.members.UserWithGroups.{UserWithGroups}
use Rattle.opc_answers.specs.Texts.{verdict_word}
use Rattle.opc_answers.specs.Who.{is_denied, is_raised, logon_line, member_line}
use Rattle.opc_answers_diff.specs.declared.asked.Asked.{Asked}
use Rattle.opc_answers_diff.specs.declared.asked.Asked.TheVariants.{Logon, Resource}
use Rattle.opc_answers_diff.specs.declared.members.MemberChange.{MemberChange}
use Rattle.opc_answers_diff.specs.declared.verdicts.UserChange.{UserChange}

-- the level that is asked about
abbrev pub level_of : Asked → Level
level_of (Resource kind) = kind.level
level_of Logon = Read

-- A line of an answer that is denied is hidden.
abbrev pub hidden_if_denied : UserLine → UserLine
hidden_if_denied line = if is_denied line.ruling then record line { instead = Some Hidden } else line

abbrev pub as_asked : Asked → UserWithGroups → UserLine → UserLine
as_asked (Resource kind) m line = if kind.is_line then hidden_if_denied line else line
as_asked Logon m line = logon_line m.user line

-- the line of a user on one side, by the profile that decides there, at a console or at none
abbrev pub side_line : Asked → (decided : Option Profile) → (console : Option (List ℕ)) → UserWithGroups → UserLine
side_line asked decided console m = as_asked asked m (member_line decided console (level_of asked) m)

abbrev pub user_change : Asked → (before after : Option Profile) → (console : Option (List ℕ)) → MemberChange → UserChange
user_change asked before after console m = record {
  id = m.id;
  before = option_map (side_line asked before console) m.before;
  after = option_map (side_line asked after console) m.after;
}

-- what is said of a user; one that a side does not have may nothing there
abbrev pub denial : Asked → List ℕ
denial (Resource kind) = if kind.is_line then codes "HIDDEN" else codes "DENIED"
denial Logon = codes "DENIED"

abbrev pub said_of : Asked → Option UserLine → List ℕ
said_of asked None = denial asked
said_of asked (Some line) = verdict_word line.ruling line.instead

abbrev pub says_else : Asked → UserChange → Bool
says_else asked change = not (bytes_eq (said_of asked change.before) (said_of asked change.after))

-- whether an entry for one console alone gives the level on a side
abbrev pub is_raised_in : Option UserLine → Bool
is_raised_in line = option_map_or is_raised line false

abbrev pub is_raised_on_a_side : UserChange → Bool
is_raised_on_a_side change = is_raised_in change.before || is_raised_in change.after

-- At a console a user is listed only if an entry for it gives the level on a side: else the line at no console says it.
-- A LOGON is at its console alone.
abbrev pub counts_at : Asked → (console : Option (List ℕ)) → UserChange → Bool
counts_at (Resource kind) None change = true
counts_at (Resource kind) (Some console) change = is_raised_on_a_side change
counts_at Logon console change = true

abbrev pub is_listed : Asked → (console : Option (List ℕ)) → UserChange → Bool
is_listed asked console change = counts_at asked console change && says_else asked change

abbrev pub changes_at : Asked → (before after : Option Profile) → List MemberChange → (console : Option (List ℕ))
    → List UserChange
changes_at asked before after members console =
    filter (is_listed asked console) (map (user_change asked before after console) members)

-- the consoles for which alone an entry of either profile is, in order
abbrev pub with_console : Option (List ℕ) → List (List ℕ) → List (List ℕ)
with_console None consoles = consoles
with_console (Some console) consoles = insert_key name_cmp consoles console

abbrev pub consoles_with : List Entry → List (List ℕ) → List (List ℕ)
consoles_with [] consoles = consoles
consoles_with (e ∷ entries) consoles = consoles_with entries (with_console e.when consoles)

abbrev pub entries_of : Option Profile → List Entry
entries_of profile = option_map_or (λ (p : Profile). p.entries) profile []

abbrev pub consoles_named : (before after : Option Profile) → List (List ℕ)
consoles_named before after = consoles_with (entries_of after) (consoles_with (entries_of before) [])

abbrev pub at_console : Asked → (before after : Option Profile) → List MemberChange → (console : List ℕ) → List UserChange
at_console asked before after members console = changes_at asked before after members (Some console)

-- the lines of a section: those at no console, and then those at each console that an entry names
abbrev pub user_changes : Asked → (before after : Option Profile) → List MemberChange → List UserChange
user_changes asked before after members = changes_at asked before after members None
    ++ flat_map (at_console asked before after members) (consoles_named before after)

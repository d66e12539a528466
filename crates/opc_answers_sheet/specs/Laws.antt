-- What a page says, in users' words.
use Rattle.std.specs.Prelude.{◌≡◌, ◌&&◌, ◌||◌, ℕ, Bool, false, true, List, [], ◌∷◌, Option, Some, None}
use Rattle.std.specs.List.{list_all, list_any, slice_get}
use Rattle.std.specs.Option.{option_eq}
use Rattle.std.specs.Str.{bytes_eq}
use Rattle.opc_terms.specs.declared.need.Need.{Need}
use Rattle.opc_policy_members.specs.declared.policy.Policy.{Policy}
use Rattle.opc_policy_sources.specs.declared.sources.LevelSource.{LevelSource}
use Rattle.opc_policy_deciders.specs.declared.kind.AskedKind.{AskedKind}
use Rattle.opc_policy_deciders.specs.Decided.{ArePatternsOf, AreShortest, IsDecided}
use Rattle.opc_policy_deciders.specs.Forms.{forms}
use Rattle.opc_policy_deciders.specs.Kinds.{Example, examples}
use Rattle.opc_board.specs.declared.board.BoardRows.{BoardRows}
use Rattle.opc_board.specs.declared.rows.ConsoleRow.{ConsoleRow}
use Rattle.opc_answers.specs.declared.lines.UserLine.{UserLine}
use Rattle.opc_answers.specs.Texts.{may}
use Rattle.opc_answers.specs.declared.members.UserWithGroups.{UserWithGroups}
use Rattle.opc_answers.specs.declared.who.AskedAt.TheVariants.{OnBoard}
use Rattle.opc_answers.specs.Made.{members_of}
use Rattle.opc_answers.specs.Who.{is_raised_there, said_at, user_said, users_of}
use Rattle.opc_answers_sheet.specs.Commands.{lines_there, who_about}
use Rattle.opc_answers_sheet.specs.Consoles.{who_logs_on}
use Rattle.opc_answers_sheet.specs.Escaped.{escaped_characters, is_plain}
use Rattle.opc_answers_sheet.specs.Examples.{need_of}
use Rattle.opc_answers_sheet.specs.Ways.{console_of, groups_after, may_by, sources_of, way}

-- An escaped text has no character that begins or ends a tag or the value of an attribute.
abbrev pub EscapedTextHasNoMarkup : Type 0
EscapedTextHasNoMarkup = (text : List ℕ) → list_all is_plain (escaped_characters text) ≡ true

-- whether a user stands in one of the paragraphs that these lines make, of one console or of all
abbrev pub stands_by : (console : Option (List ℕ)) → (warned : Bool) → List UserLine → UserLine → Bool
stands_by console warned lines line =
    list_any (λ (s : Option LevelSource). may_by (way console warned s) line) (sources_of (groups_after lines []))

abbrev pub stands : (console : Option (List ℕ)) → List UserLine → UserLine → Bool
stands console lines line = stands_by console false lines line || stands_by console true lines line

-- The user of a line stands there exactly if `who --allowed` shows the line, and the level is given there: at every
-- console, or by an entry for this one alone.
abbrev pub ListsWhoMay : Type 0
ListsWhoMay = (console : Option (List ℕ)) (lines : List UserLine) (place : ℕ) (line : UserLine)
    → slice_get lines place ≡ Some line
    → stands console lines line ≡ (may line && option_eq bytes_eq (console_of line.held) console)

-- Of a command a user stands among those who may at every console exactly if `who --allowed` lists the user,
abbrev pub ListsAsWho : Type 0
ListsAsWho = (p : Policy) (b : BoardRows) (need : Need) (place : ℕ) (m : UserWithGroups)
    → slice_get (members_of p) place ≡ Some m
    → stands None (users_of (who_about p b need)) (user_said (who_about p b need) m)
    ≡ may (user_said (who_about p b need) m)

-- and among those of one console exactly if it lists the user there: its lines are of those whom an entry for that
-- console alone gives a level.
abbrev pub ListsAsWhoThere : Type 0
ListsAsWhoThere = (p : Policy) (b : BoardRows) (need : Need) (c : ConsoleRow) (place : ℕ) (m : UserWithGroups)
    → slice_get (members_of p) place ≡ Some m
    → stands (Some c.name) (lines_there (who_about p b need) c) (said_at (who_about p b need) (OnBoard c) m)
    ≡ (may (said_at (who_about p b need) (OnBoard c) m) && is_raised_there (who_about p b need) c m)

-- In the row of a console a user stands exactly if `who --allowed` about a LOGON there lists the user.
abbrev pub ListsLogonsAsWho : Type 0
ListsLogonsAsWho = (p : Policy) (b : BoardRows) (c : ConsoleRow) (place : ℕ) (m : UserWithGroups)
    → slice_get (members_of p) place ≡ Some m
    → (stands None (users_of (who_logs_on p b c)) (user_said (who_logs_on p b c) m)
    || stands (Some c.name) (users_of (who_logs_on p b c)) (user_said (who_logs_on p b c) m))
    ≡ may (user_said (who_logs_on p b c) m)

-- Of each form of a row `who` says of all users what it says of the first, whose example the row is made by.
abbrev pub SaysTheSameOfAllForms : Type 0
SaysTheSameOfAllForms = (p : Policy) (b : BoardRows) (patterns : List (List ℕ)) (place : ℕ)
    (found : List (Option (List ℕ))) (kind : AskedKind) (first : Example) (more : List Example) (at : ℕ) (one : Example)
    → ArePatternsOf p patterns → AreShortest (IsDecided p (slice_get patterns place)) forms found
    → examples kind forms found ≡ first ∷ more → slice_get (first ∷ more) at ≡ Some one
    → users_of (who_about p b (need_of one)) ≡ users_of (who_about p b (need_of first))

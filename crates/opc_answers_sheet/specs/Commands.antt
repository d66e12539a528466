-- The rows of commands: who may, by each profile that decides.
use Rattle.std.specs.Prelude.{
  ◌≡◌,
  ◌++◌,
  ℕ,
  List,
  [],
  ◌∷◌,
  Option,
  Some,
  None,
  IfSome,
  codes,
  flat_map,
  map,
}
use Rattle.std.specs.List.{AllByRecursion, join_by, slice_get}
use Rattle.opc_names.specs.declared.class.Class.TheVariants.{Opercmds}
use Rattle.opc_names.specs.declared.level.Level.{Level}
use Rattle.opc_terms.specs.declared.need.Need.{Need}
use Rattle.opc_policy_members.specs.declared.policy.Policy.{Policy}
use Rattle.opc_policy_members.specs.declared.profile.Profile.{Profile}
use Rattle.opc_policy_deciders.specs.declared.kind.AskedKind.{AskedKind}
use Rattle.opc_policy_deciders.specs.Decided.{AreShortest, IsDecided, patterns_of}
use Rattle.opc_policy_deciders.specs.Forms.{forms}
use Rattle.opc_policy_deciders.specs.Kinds.{Example, examples, kinds}
use Rattle.opc_board.specs.declared.board.BoardRows.{BoardRows}
use Rattle.opc_board.specs.declared.rows.ConsoleRow.{ConsoleRow}
use Rattle.opc_answers.specs.declared.lines.UserLine.{UserLine}
use Rattle.opc_answers.specs.declared.members.UserWithGroups.{UserWithGroups}
use Rattle.opc_answers.specs.declared.who.AskedAt.TheVariants.{Everywhere, OnBoard}
use Rattle.opc_answers.specs.declared.who.Who.{Who}
use Rattle.opc_answers.specs.Deciding.{decider}
use Rattle.opc_answers.specs.Logons.{Door, no_logon}
use Rattle.opc_answers.specs.Who.{
  line_wanted,
  member_line,
  named_of,
  or_authority,
  said_at,
  unless_on,
  users_of,
  who_at,
}
use Rattle.opc_answers_sheet.specs.Callers.{Caller}
use Rattle.opc_answers_sheet.specs.Cells.{row_text, users_at}
use Rattle.opc_answers_sheet.specs.Examples.{names_of, need_of}

-- the answer of `who` about what a command or a line needs
abbrev pub who_about : Policy → BoardRows → Need → Who
who_about p b need = who_at p b (line_wanted need) Everywhere

-- those who may at every console, and at each for which the profile has entries, those who may by them
abbrev pub lines_there : Who → ConsoleRow → List UserLine
lines_there who c = map (said_at who (OnBoard c)) who.room.members

abbrev pub console_text : Who → ConsoleRow → List ℕ
console_text who c = users_at (Some c.name) 0 (lines_there who c)

abbrev pub profile_text : Who → List ℕ
profile_text who = users_at None 0 (users_of who) ++ flat_map (console_text who) (named_of who)

abbrev pub decided_text : Option Profile → Who → List ℕ
decided_text None who = codes "<p>the authority of the console decides</p>"
decided_text (Some p) who = profile_text who

-- a row: the forms, what decides, and who may; a line breaks between names alone
abbrev pub whole_names : List (List ℕ) → List ℕ
whole_names names = join_by (λ name. name) (codes "</span>, <span>") names

abbrev pub names_cell : List (List ℕ) → List ℕ
names_cell names = codes "<td><span>" ++ (whole_names names ++ codes "</span></td>")

abbrev pub asked_row : (names : List (List ℕ)) → Who → List ℕ
asked_row names who = row_text (names_cell names) who.decided (decided_text who.decided who)

abbrev pub command_row : Policy → BoardRows → List Example → List ℕ
command_row p b [] = []
command_row p b (example ∷ more) = asked_row (names_of (example ∷ more)) (who_about p b (need_of example))

-- the profile, or none, that decides all that is found
abbrev pub DecidesAll : Policy → (decided : Option Profile) → (found : List (Option (List ℕ))) → Type 0
DecidesAll p decided found = AllByRecursion (λ one. IfSome one (λ resource. decided ≡ decider p Opercmds resource)) found

-- the rows of what decides: one for each kind of which a form has a resource that it decides
abbrev pub kind_row : Policy → BoardRows → (found : List (Option (List ℕ))) → AskedKind → List ℕ
kind_row p b found kind = command_row p b (examples kind forms found)

abbrev pub rows_of : Policy → BoardRows → (found : List (Option (List ℕ))) → List ℕ
rows_of p b found = flat_map (kind_row p b found) kinds

-- those of the profile at a place of all or, at their end, of what no profile decides
pub record AreRowsAt (p : Policy) (b : BoardRows) (place : ℕ) (text : List ℕ) : Type 0 where
  pub found : List (Option (List ℕ))
  pub shortest : AreShortest (IsDecided p (slice_get (patterns_of p) place)) forms found
  pub rows : text ≡ rows_of p b found

-- what is said of a user, by what decides
abbrev pub said_everywhere : Option Profile → Level → Caller → UserLine
said_everywhere decided level caller =
    unless_on caller.no_logon (member_line decided None level caller.member)

abbrev pub said_there : Door → Option Profile → Need → ConsoleRow → UserWithGroups → UserLine
said_there door decided need c m = unless_on (no_logon door m)
    (or_authority c need (member_line decided (Some c.name) need.level m))

-- The rows of consoles: what each allows while unattended, and who may log on there.
use Rattle.std.specs.Prelude.{◌++◌, ℕ, Bool, false, true, List, Option, Some, None, codes, flat_map}
use Rattle.std.specs.Option.{is_some}
use Rattle.opc_names.specs.declared.level.Level.TheVariants.{Read}
use Rattle.opc_names.specs.Spellings.{auth_text}
use Rattle.opc_terms.specs.declared.mode.Mode.{Mode}
use Rattle.opc_terms.specs.declared.mode.Mode.TheVariants.{Auto, Optional, Required}
use Rattle.opc_terms.specs.Modes.{mode_text}
use Rattle.opc_policy_members.specs.declared.policy.Policy.{Policy}
use Rattle.opc_policy_members.specs.declared.profile.Profile.{Profile}
use Rattle.opc_policy_members.specs.Members.{user_of}
use Rattle.opc_board.specs.declared.board.BoardRows.{BoardRows}
use Rattle.opc_board.specs.declared.rows.ConsoleRow.{ConsoleRow}
use Rattle.opc_answers.specs.declared.lines.UserLine.{UserLine}
use Rattle.opc_answers.specs.declared.members.UserWithGroups.{UserWithGroups}
use Rattle.opc_answers.specs.declared.wanted.Wanted.TheVariants.{Logon}
use Rattle.opc_answers.specs.declared.who.AskedAt.TheVariants.{OnBoard}
use Rattle.opc_answers.specs.declared.who.Who.{Who}
use Rattle.opc_answers.specs.Who.{logon_line, member_line, users_of, who_at}
use Rattle.opc_answers_sheet.specs.Cells.{row_text, users_at}

-- a console acts for the user of its name, if it is AUTO and there is such a user
abbrev pub acting_words : (stored : Bool) → (name : List ℕ) → List ℕ
acting_words true name = codes "what " ++ (name ++ codes " may")
acting_words false name = codes "what its authority allows"

abbrev pub unattended_words : Mode → (stored : Bool) → (name : List ℕ) → List ℕ
unattended_words Required stored name = codes "nothing"
unattended_words Optional stored name = acting_words false name
unattended_words Auto stored name = acting_words stored name

abbrev pub console_cells : Policy → ConsoleRow → List ℕ
console_cells p c = codes "<td><code>" ++ (c.name ++ (codes "</code> " ++ (auth_text c.auth ++ (codes ", "
    ++ (mode_text c.mode ++ (codes "</td><td>" ++ (unattended_words c.mode (is_some (user_of p.users c.name)) c.name
    ++ codes "</td>")))))))

-- the answer of `who` about a LOGON there
abbrev pub who_logs_on : Policy → BoardRows → ConsoleRow → Who
who_logs_on p b c = who_at p b (Logon c.name) (OnBoard c)

-- what is said of a user there, by what decides
abbrev pub logon_said : Option Profile → ConsoleRow → UserWithGroups → UserLine
logon_said decided c m = logon_line m.user (member_line decided (Some c.name) Read m)

abbrev pub users_there : ConsoleRow → List UserLine → List ℕ
users_there c lines = users_at None 0 lines ++ users_at (Some c.name) 0 lines

abbrev pub logon_row : Policy → ConsoleRow → Who → List ℕ
logon_row p c who = row_text (console_cells p c) who.decided (users_there c (users_of who))

abbrev pub console_row : Policy → BoardRows → ConsoleRow → List ℕ
console_row p b c = logon_row p c (who_logs_on p b c)

abbrev pub console_rows : Policy → BoardRows → List ℕ
console_rows p b = flat_map (console_row p b) b.consoles

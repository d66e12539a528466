-- What is said of users by what decides is what `who` says.
use Rattle.std.proofs.Common.{◌≡◌, ◌∙◌, List, [], ◌∷◌, Option, ap, ap₂, map, refl}
use Rattle.opc_names.specs.declared.class.Class.TheVariants.{Console, Opercmds}
use Rattle.opc_terms.specs.declared.need.Need.{Need}
use Rattle.opc_policy_members.specs.declared.policy.Policy.{Policy}
use Rattle.opc_policy_members.specs.declared.profile.Profile.{Profile}
use Rattle.opc_board.specs.declared.board.BoardRows.{BoardRows}
use Rattle.opc_board.specs.declared.rows.ConsoleRow.{ConsoleRow}
use Rattle.opc_answers.specs.declared.members.UserWithGroups.{UserWithGroups}
use Rattle.opc_answers.specs.Deciding.{decider}
use Rattle.opc_answers.specs.Logons.{Door, door_of}
use Rattle.opc_answers.specs.Made.{members_of}
use Rattle.opc_answers.specs.Who.{user_said, users_of}
use Rattle.opc_answers_sheet.specs.Callers.{caller_of, callers_of}
use Rattle.opc_answers_sheet.specs.Consoles.{logon_said, who_logs_on}
use Rattle.opc_answers_sheet.specs.Commands.{lines_there, said_everywhere, said_there, who_about}

module _ (p : Policy) (b : BoardRows) (need : Need) where
  each : (members : List UserWithGroups)
      → map (said_everywhere (decider p Opercmds need.resource) need.level) (map (caller_of p b) members)
      ≡ map (user_said (who_about p b need)) members
  each [] = refl
  each (m ∷ members) = ap (λ lines. user_said (who_about p b need) m ∷ lines) (each members)

  pub said_as_who : (decided : Option Profile) → decided ≡ decider p Opercmds need.resource
      → map (said_everywhere decided need.level) (callers_of p b) ≡ users_of (who_about p b need)
  said_as_who decided is = ap (λ d. map (said_everywhere d need.level) (callers_of p b)) is ∙ each (members_of p)

  pub said_through_door : (decided : Option Profile) (c : ConsoleRow) (door : Door) (members : List UserWithGroups)
      → door ≡ door_of p c → members ≡ members_of p → decided ≡ decider p Opercmds need.resource
      → map (said_there door decided need c) members ≡ lines_there (who_about p b need) c
  said_through_door decided c door members there are is =
      ap₂ (λ (d : Door) (all : List UserWithGroups). map (said_there d decided need c) all) there are
      ∙ ap (λ d. map (said_there (door_of p c) d need c) (members_of p)) is

pub said_of_logons_as_who : (p : Policy) (b : BoardRows) (decided : Option Profile) (c : ConsoleRow)
    → decided ≡ decider p Console c.name → map (logon_said decided c) (members_of p) ≡ users_of (who_logs_on p b c)
said_of_logons_as_who p b decided c is = ap (λ d. map (logon_said d c) (members_of p)) is

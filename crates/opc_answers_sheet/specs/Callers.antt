-- Users, each with why the user can log on nowhere.
use Rattle.std.specs.Prelude.{List, Option, map}
use Rattle.opc_policy_members.specs.declared.policy.Policy.{Policy}
use Rattle.opc_board.specs.declared.board.BoardRows.{BoardRows}
use Rattle.opc_answers.specs.declared.logons.NoLogon.{NoLogon}
use Rattle.opc_answers.specs.declared.members.UserWithGroups.{UserWithGroups}
use Rattle.opc_answers.specs.declared.who.AskedAt.TheVariants.{Everywhere}
use Rattle.opc_answers.specs.Made.{members_of}
use Rattle.opc_answers.specs.Who.{no_logon_at}

pub record Caller : Type 0 where
  pub member : UserWithGroups
  pub no_logon : Option NoLogon

abbrev pub caller_of : Policy → BoardRows → UserWithGroups → Caller
caller_of p b m = record { member = m; no_logon = no_logon_at p b Everywhere m }

abbrev pub callers_of : Policy → BoardRows → List Caller
callers_of p b = map (caller_of p b) (members_of p)

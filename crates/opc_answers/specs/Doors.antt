-- Where users can log on, of the consoles that count.
use Rattle.std.specs.Prelude.{◌≡◌, Option, None}
use Rattle.opc_policy_members.specs.declared.policy.Policy.{Policy}
use Rattle.opc_board.specs.declared.board.BoardRows.{BoardRows}
use Rattle.opc_answers.specs.declared.doors.Doors.{Doors}
use Rattle.opc_answers.specs.declared.doors.Doors.TheVariants.{All, One, Uncounted}
use Rattle.opc_answers.specs.declared.logons.NoLogon.{NoLogon}
use Rattle.opc_answers.specs.declared.members.UserWithGroups.{UserWithGroups}
use Rattle.opc_answers.specs.declared.who.AskedAt.{AskedAt}
use Rattle.opc_answers.specs.Logons.{no_logon, nowhere}
use Rattle.opc_answers.specs.declared.who.Who.{Who}
use Rattle.opc_answers.specs.Who.{no_logon_at, no_logon_for}

abbrev pub no_logon_by : Doors → UserWithGroups → Option NoLogon
no_logon_by (All doors) m = nowhere m doors.items
no_logon_by (One door) m = no_logon door m
no_logon_by Uncounted m = None

-- they say why a user cannot log on at the consoles that count
abbrev pub AreDoorsAt : Policy → BoardRows → AskedAt → Doors → Type 0
AreDoorsAt p b place doors = (m : UserWithGroups) → no_logon_by doors m ≡ no_logon_at p b place m

-- and where it is asked about, if that counts
abbrev pub AreDoorsFor : Who → AskedAt → Doors → Type 0
AreDoorsFor who place doors = (m : UserWithGroups)
    → no_logon_by doors m ≡ no_logon_for who.wanted who.room.policy who.room.board place m

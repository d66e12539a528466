-- What one user may: of whom it is asked, and where.
use Rattle.std.specs.Prelude.{ℕ, List, [], ◌∷◌, Option, Some, None, Result, Ok, Err}
use Rattle.opc_terms.specs.declared.fault.Fault.{Fault}
use Rattle.opc_terms.specs.declared.fault.Fault.TheVariants.{Missing}
use Rattle.opc_policy_members.specs.declared.policy.Policy.{Policy}
use Rattle.opc_policy_members.specs.declared.row.Row.{Row}
use Rattle.opc_policy_members.specs.declared.user.User.{User}
use Rattle.opc_policy_members.specs.Members.{user_of}
use Rattle.opc_board.specs.declared.board.BoardRows.{BoardRows}
use Rattle.opc_board.specs.declared.rows.ConsoleRow.{ConsoleRow}
use Rattle.opc_board.specs.Invariants.{console_at}
use Rattle.opc_state.specs.State.{State, empty}
use Rattle.opc_machine.specs.Bootstrap.{bootstrapped}
use Rattle.opc_answers.specs.declared.members.UserWithGroups.{UserWithGroups}
use Rattle.opc_answers.specs.declared.who.AskedAt.{AskedAt}
use Rattle.opc_answers.specs.declared.who.AskedAt.TheVariants.{Everywhere, Named, OnBoard}
use Rattle.opc_answers.specs.Made.{member_of, members_of}
use Rattle.opc_answers.specs.Who.{no_logon_at, on_board}
use Rattle.opc_answers_may.specs.declared.may.May.{May}

-- everywhere, or at a console of the board
abbrev pub place_in : BoardRows → Option (List ℕ) → Result AskedAt Fault
place_in b None = Ok Everywhere
place_in b (Some name) = on_board (console_at b name)

-- the consoles that are asked about
abbrev pub consoles_in : BoardRows → AskedAt → List ConsoleRow
consoles_in b Everywhere = b.consoles
consoles_in b (OnBoard c) = c ∷ []
consoles_in b (Named name) = []

-- a stored user with the groups of the user
abbrev pub member_by : Policy → List ℕ → Option User → Result UserWithGroups Fault
member_by p id None = Err (Missing id)
member_by p id (Some user) = Ok (member_of p.connects user)

-- why the user cannot log on there belongs to it
abbrev pub may_at : Policy → BoardRows → UserWithGroups → AskedAt → May
may_at p b m place = record {
  room = record { policy = p; members = members_of p; board = b };
  member = m;
  at = place;
  no_logon = no_logon_at p b place m;
}

abbrev pub may_placed : Policy → BoardRows → UserWithGroups → Result AskedAt Fault → Result May Fault
may_placed p b m (Ok place) = Ok (may_at p b m place)
may_placed p b m (Err fault) = Err fault

abbrev pub may_by : Policy → BoardRows → Option (List ℕ) → Result UserWithGroups Fault → Result May Fault
may_by p b console (Ok m) = may_placed p b m (place_in b console)
may_by p b console (Err fault) = Err fault

-- the user has to be stored, and then a console that is named has to be on the board
abbrev pub may_in : State → (id : List ℕ) → (console : Option (List ℕ)) → Result May Fault
may_in s id console = may_by s.policy s.board console (member_by s.policy id (user_of s.policy.users id))

abbrev pub may_after : Result State Fault → (id : List ℕ) → (console : Option (List ℕ)) → Result May Fault
may_after (Ok s) id console = may_in s id console
may_after (Err fault) id console = Err fault

-- by the rows of a policy, as the first one of new tables
abbrev pub may_of : List Row → (id : List ℕ) → (console : Option (List ℕ)) → Result May Fault
may_of rows id console = may_after (bootstrapped rows empty) id console

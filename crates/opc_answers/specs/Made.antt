-- What the rows of a policy file make: its users and its connects, in order.
use Rattle.std.specs.Prelude.{◌≡◌, ℕ, Bool, false, true, List, [], ◌∷◌, filter, map, not}
use Rattle.std.specs.List.Sorted.{IsPartitionPoint}
use Rattle.std.specs.Ordering.{is_lt}
use Rattle.std.specs.Str.{bytes_eq}
use Rattle.opc_policy_members.specs.declared.connect.Connect.{Connect}
use Rattle.opc_policy_members.specs.declared.policy.Policy.{Policy}
use Rattle.opc_policy_members.specs.declared.row.Row.{Row}
use Rattle.opc_policy_members.specs.declared.row.Row.TheVariants as rows
use Rattle.opc_policy_members.specs.declared.user.User.{User}
use Rattle.opc_policy_members.specs.Members.{groups_of, name_cmp, with_connect, with_user}
use Rattle.opc_board.specs.declared.board.BoardRows.{BoardRows}
use Rattle.opc_state.specs.State.{State, empty}
use Rattle.opc_answers.specs.declared.members.UserWithGroups.{UserWithGroups}

abbrev pub user_after : Row → List User → List User
user_after (rows.User user) users = with_user user users
user_after other users = users

abbrev pub users_after : List Row → List User → List User
users_after [] users = users
users_after (row ∷ more) users = users_after more (user_after row users)

abbrev pub connect_after : Row → List Connect → List Connect
connect_after (rows.Connect user group) connects = with_connect (record { user = user; group = group }) connects
connect_after other connects = connects

abbrev pub connects_after : List Row → List Connect → List Connect
connects_after [] connects = connects
connects_after (row ∷ more) connects = connects_after more (connect_after row connects)

-- the connects of a user
abbrev pub connects_of : List Connect → List ℕ → List Connect
connects_of connects id = filter (λ (c : Connect). bytes_eq c.user id) connects

-- whether a connect stands before those of a user, and whether it stands before those of later users
abbrev pub is_before : List ℕ → Connect → Bool
is_before id c = is_lt (name_cmp c.user id)

abbrev pub is_up_to : List ℕ → Connect → Bool
is_up_to id c = not (is_lt (name_cmp id c.user))

-- the place from which on a test fails that all before it pass
abbrev pub IsSplit : (Connect → Bool) → List Connect → ℕ → Type 0
IsSplit p connects place = IsPartitionPoint (λ c. p c ≡ true) (λ c. p c ≡ false) connects place

-- a user with the groups of the user
abbrev pub member_of : List Connect → User → UserWithGroups
member_of connects user = record { user = user; groups = groups_of connects user.id }

abbrev pub members_of : Policy → List UserWithGroups
members_of p = map (member_of p.connects) p.users

-- a state with this policy and this board, and nothing in the account
abbrev pub state_of : Policy → BoardRows → State
state_of policy board = record empty { policy = policy; board = board }

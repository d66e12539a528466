-- The users, groups and connects of a policy, in their orders.
use Rattle.std.specs.Prelude.{ℕ, Bool, List, Option, find, filter, map}
use Rattle.std.specs.BTreeSet.{insert_key, replace_key}
use Rattle.std.specs.Cmp.Lexicographic.{slice_cmp}
use Rattle.std.specs.List.{list_any}
use Rattle.std.specs.Ordering.{nat_cmp, ordering_then}
use Rattle.std.specs.Str.{bytes_eq}
use Rattle.std.specs.declared.cmp.Ordering.{Ordering}
use Rattle.opc_policy_members.specs.declared.connect.Connect.{Connect}
use Rattle.opc_policy_members.specs.declared.user.User.{User}

-- names by their ASCII codes
abbrev pub name_cmp : List ℕ → List ℕ → Ordering
name_cmp = slice_cmp nat_cmp

-- users by their ids
abbrev pub user_cmp : User → User → Ordering
user_cmp u v = name_cmp u.id v.id

-- the user with an id
abbrev pub user_of : List User → List ℕ → Option User
user_of users id = find (λ (u : User). bytes_eq id u.id) users

-- the users with this one, which replaces one with its id
abbrev pub with_user : User → List User → List User
with_user user users = replace_key user_cmp users user

-- whether a group is among these
abbrev pub is_group : List (List ℕ) → List ℕ → Bool
is_group groups name = list_any (bytes_eq name) groups

-- the groups with this one
abbrev pub with_group : List ℕ → List (List ℕ) → List (List ℕ)
with_group name groups = insert_key name_cmp groups name

-- connects by user, and those of one user by group
abbrev pub connect_cmp : Connect → Connect → Ordering
connect_cmp c d = ordering_then (name_cmp c.user d.user) (name_cmp c.group d.group)

-- the connects with this one
abbrev pub with_connect : Connect → List Connect → List Connect
with_connect connect connects = insert_key connect_cmp connects connect

-- the groups that a user is connected to
abbrev pub groups_of : List Connect → List ℕ → List (List ℕ)
groups_of connects user = map (λ (c : Connect). c.group) (filter (λ (c : Connect). bytes_eq c.user user) connects)

-- The lists of a policy.
use Rattle.std.specs.Prelude.{◌≡◌}
use Rattle.opc_policy_members.specs.declared.policy.Policy.{Policy}
use Rattle.opc_store_whole_policy.specs.declared.lists.Lists.{Lists}
use Rattle.opc_store_whole_policy.specs.declared.lists.Members.{Members}

-- these are the groups, the users and the connects of that policy
abbrev pub AreMembersOf : Policy → Members → Type 0
AreMembersOf p m = (m.groups ≡ p.groups) × (m.users ≡ p.users) × (m.connects ≡ p.connects)

-- these are the lists of that policy
abbrev pub AreListsOf : Policy → Lists → Type 0
AreListsOf p l = (l.active ≡ p.active) × AreMembersOf p l.members × (l.profiles.items ≡ p.profiles)

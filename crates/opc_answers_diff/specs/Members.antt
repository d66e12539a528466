-- The users of two policies, side by side.
use Rattle.std.specs.Prelude.{
  ◌&&◌,
  ℕ,
  Bool,
  false,
  true,
  not,
  List,
  [],
  ◌∷◌,
  Option,
  Some,
  None,
  filter,
  find,
  if◌then◌else◌,
  map,
}
use Rattle.std.specs.BTreeMap.{BTreeMap, get}
use Rattle.std.specs.BTreeSet.{insert_key}
use Rattle.std.specs.Cmp.Lexicographic.{pointwise}
use Rattle.std.specs.Str.{bytes_eq}
use Rattle.opc_policy_members.specs.declared.user.User.{User}
use Rattle.opc_policy_members.specs.Members.{name_cmp}
use Rattle.opc_answers.specs.declared.members.UserWithGroups.{UserWithGroups}
use Rattle.opc_answers.specs.declared.room.Room.{Room}
use Rattle.opc_answers_diff.specs.declared.members.MemberChange.{MemberChange}

-- the user of an id, with the groups of the user, if there is one
abbrev pub has_id : List ℕ → UserWithGroups → Bool
has_id id m = bytes_eq id m.user.id

abbrev pub member_in : List UserWithGroups → (id : List ℕ) → Option UserWithGroups
member_in members id = find (has_id id) members

abbrev pub if_is : (id : List ℕ) → UserWithGroups → Option UserWithGroups
if_is id m = if has_id id m then Some m else None

-- the ids of some users among others, in order
abbrev pub ids_with : List UserWithGroups → List (List ℕ) → List (List ℕ)
ids_with [] ids = ids
ids_with (m ∷ members) ids = ids_with members (insert_key name_cmp ids m.user.id)

abbrev pub ids_of_both : (before after : List UserWithGroups) → List (List ℕ)
ids_of_both before after = ids_with after (ids_with before [])

-- each user of either side
abbrev pub member_change : (before after : List UserWithGroups) → (id : List ℕ) → MemberChange
member_change before after id =
    record { id = id; before = member_in before id; after = member_in after id }

abbrev pub members_of_both : (before after : Room) → List MemberChange
members_of_both before after =
    map (member_change before.members after.members) (ids_of_both before.members after.members)

-- the same of the users that two maps have
abbrev pub ById : Type 0
ById = BTreeMap (List ℕ) UserWithGroups

abbrev pub change_by_id : (before after : ById) → (id : List ℕ) → MemberChange
change_by_id before after id =
    record { id = id; before = get name_cmp before id; after = get name_cmp after id }

-- Who is not the same on both sides: an attribute differs, or a group, or one side does not have the user.
abbrev pub is_same_flag : Bool → Bool → Bool
is_same_flag a b = if a then b else not b

abbrev pub is_same_digest : Option (List ℕ) → Option (List ℕ) → Bool
is_same_digest None None = true
is_same_digest None (Some digest) = false
is_same_digest (Some digest) None = false
is_same_digest (Some digest) (Some other) = bytes_eq digest other

abbrev pub is_same_user : User → User → Bool
is_same_user u v = bytes_eq u.id v.id && (is_same_flag u.special v.special && (is_same_flag u.auditor v.auditor
    && (is_same_flag u.revoked v.revoked && (is_same_digest u.digest v.digest
    && is_same_flag u.restricted v.restricted))))

abbrev pub is_same_member : UserWithGroups → UserWithGroups → Bool
is_same_member m n = is_same_user m.user n.user && pointwise bytes_eq m.groups n.groups

abbrev pub differ : Option UserWithGroups → Option UserWithGroups → Bool
differ (Some m) (Some n) = not (is_same_member m n)
differ (Some m) None = true
differ None other = true

abbrev pub is_changed : MemberChange → Bool
is_changed change = differ change.before change.after

abbrev pub changed_ids : List MemberChange → List (List ℕ)
changed_ids members = map (λ (m : MemberChange). m.id) (filter is_changed members)

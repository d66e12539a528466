-- Who may administer, see profiles and the account, and import.
use Rattle.std.proofs.Common.{◌≡◌, ◌⊎◌, Bool, true, ◌||◌, Option, Some, None, Decides, refl, rules, sym, ap, ◌∙◌}
use Rattle.std.proofs.lemmas.Bool.{false≢true}
use Rattle.std.proofs.lemmas.Bool.Decides.{Decides-or}
use Rattle.std.proofs.lemmas.Slice.Eq.{bytes_eq-Decides}
use Rattle.opc_names.specs.Authority.{includes}
use Rattle.opc_names.specs.declared.level.Level.TheVariants.{Read}
use Rattle.opc_policy_members.specs.declared.policy.Policy.{Policy}
use Rattle.opc_policy_members.specs.declared.profile.Profile.{Profile}
use Rattle.opc_policy_members.specs.declared.user.User.{User}
use Rattle.opc_policy_members.specs.Profiles.{profile_of}
use Rattle.opc_board.specs.declared.rows.ConsoleRow.{ConsoleRow}
use Rattle.opc_state.specs.State.{State}
use Rattle.opc_machine.specs.declared.operation.Operation.{Operation}
use Rattle.opc_machine.specs.declared.operation.Operation.TheVariants as operation
use Rattle.opc_machine.specs.Rights.{holds_read, is_owner, is_special, owns_changed, sees_all}
use Rattle.opc_machine.specs.Rulings.{acting}
use Rattle.opc_machine_laws.specs.RightLaws.{
  AccountIsSeenByAuditors,
  ImportsAreOfSpecial,
  MayChange,
  MaySeeProfile,
  Owns,
  ProfilesAreSeenByReaders,
  RightsAreOfSpecialAndOwners,
  SeesAll,
  changed_profile,
}
use Rattle.opc_machine_laws.specs.RulingLaws.{held_at}
use Rattle.opc_machine_laws.proofs.Consoles.{nobody_owns}

itself : (b : Bool) → Decides b (b ≡ true)
itself b = (λ h. h, λ h. h)

-- the owner of a profile, if there is one
owner_is : (user : User) (o : Option Profile) → Decides (is_owner (Some user) o) ((profile : Profile) × (o ≡ Some profile) × (profile.owner ≡ user.id))
owner_is user None = (λ h. absurd (search (rules, h)), λ w. absurd (search (rules, w.1)))
owner_is user (Some p) = (
  λ h. (p, refl, (bytes_eq-Decides p.owner user.id).0 h),
  λ w. let same : p ≡ w.0 = search (rules, w.1) in (bytes_eq-Decides p.owner user.id).1 (ap (λ (x : Profile). x.owner) same ∙ w.2),
)

owns_is : (p : Policy) (user : User) (o : Operation) → Decides (owns_changed p (Some user) o) (Owns p user (changed_profile o))
owns_is p user (operation.RAlter class pattern owner uacc warning) = owner_is user (profile_of p.profiles class pattern)
owns_is p user (operation.RDelete class pattern) = owner_is user (profile_of p.profiles class pattern)
owns_is p user (operation.Permit class pattern id level when) = owner_is user (profile_of p.profiles class pattern)
owns_is p user (operation.PermitDelete class pattern id when) = owner_is user (profile_of p.profiles class pattern)
owns_is p user o = (λ h. absurd (search (rules, h)), λ none. absurd none)

module _ (s : State) (c : ConsoleRow) where
  module _ (o : Operation) where
    right_is : (user : User) → Decides (is_special (Some user) || owns_changed s.policy (Some user) o)
        ((user.special ≡ true) ⊎ Owns s.policy user (changed_profile o))
    right_is user = Decides-or user.special (owns_changed s.policy (Some user) o) (itself user.special) (owns_is s.policy user o)

    may_by : (u : Option User) → acting s c ≡ u → (is_special u || owns_changed s.policy u o) ≡ true → MayChange s c o
    may_by None at h = absurd (false≢true (sym (nobody_owns s o) ∙ h))
    may_by (Some user) at h = record { user = user; acts = at; right = (right_is user).0 h }

  module _ (p : Profile) where
    seen_is : (user : User) → Decides (sees_all (Some user) || is_owner (Some user) (Some p)
        || holds_read s c (Some user) p)
        ((SeesAll user ⊎ (p.owner ≡ user.id)) ⊎ (includes (held_at s c user p) Read ≡ true))
    seen_is user =
        Decides-or (sees_all (Some user) || is_owner (Some user) (Some p)) (holds_read s c (Some user) p)
        (Decides-or (sees_all (Some user)) (is_owner (Some user) (Some p))
        (Decides-or user.special user.auditor (itself user.special) (itself user.auditor))
        (bytes_eq-Decides p.owner user.id))
        (itself (holds_read s c (Some user) p))

    seen_by : (u : Option User) → acting s c ≡ u → (sees_all u || is_owner u (Some p) || holds_read s c u p) ≡ true → MaySeeProfile s c p
    seen_by None at h = absurd (search (rules, h))
    seen_by (Some user) at h = record { user = user; acts = at; right = (seen_is user).0 h }

  all_seen_by : (u : Option User) → acting s c ≡ u → sees_all u ≡ true → (user : User) × (acting s c ≡ Some user) × SeesAll user
  all_seen_by None at h = absurd (search (rules, h))
  all_seen_by (Some user) at h = (user, at, (Decides-or user.special user.auditor (itself user.special) (itself user.auditor)).0 h)

  special_by : (u : Option User) → acting s c ≡ u → is_special u ≡ true → (user : User) × (acting s c ≡ Some user) × (user.special ≡ true)
  special_by None at h = absurd (search (rules, h))
  special_by (Some user) at h = (user, at, h)

pub rights_are : RightsAreOfSpecialAndOwners
rights_are s c o = (
  may_by s c o (acting s c) refl,
  λ may. ap (λ u. is_special u || owns_changed s.policy u o) may.acts ∙ (right_is s c o may.user).1 may.right,
)

pub profiles_seen : ProfilesAreSeenByReaders
profiles_seen s c p = (
  seen_by s c p (acting s c) refl,
  λ may. ap (λ u. sees_all u || is_owner u (Some p) || holds_read s c u p) may.acts ∙ (seen_is s c p may.user).1 may.right,
)

pub account_seen : AccountIsSeenByAuditors
account_seen s c = (
  all_seen_by s c (acting s c) refl,
  λ may. ap sees_all may.1 ∙ (Decides-or may.0.special may.0.auditor (itself may.0.special) (itself may.0.auditor)).1 may.2,
)

pub imports_of_special : ImportsAreOfSpecial
imports_of_special s c = (special_by s c (acting s c) refl, λ may. ap is_special may.1 ∙ may.2)

-- Who may administer, see profiles and the account, and import.
use Rattle.std.specs.Prelude.{◌≡◌, ◌⊎◌, ◌↔◌, ℕ, true, List, Option, Some, None}
use Rattle.opc_names.specs.Authority.{includes}
use Rattle.opc_names.specs.declared.class.Class.{Class}
use Rattle.opc_names.specs.declared.level.Level.TheVariants.{Read}
use Rattle.opc_policy_members.specs.declared.policy.Policy.{Policy}
use Rattle.opc_policy_members.specs.declared.profile.Profile.{Profile}
use Rattle.opc_policy_members.specs.declared.user.User.{User}
use Rattle.opc_policy_members.specs.Profiles.{profile_of}
use Rattle.opc_board.specs.declared.rows.ConsoleRow.{ConsoleRow}
use Rattle.opc_state.specs.State.{State}
use Rattle.opc_machine.specs.declared.operation.Operation.{Operation}
use Rattle.opc_machine.specs.declared.operation.Operation.TheVariants as operation
use Rattle.opc_machine.specs.Rights.{account_shown, is_special, may_change, profile_shown}
use Rattle.opc_machine.specs.Rulings.{acting}
use Rattle.opc_machine_laws.specs.RulingLaws.{held_at}

-- the profile that an operation alters or deletes, or whose access list it changes
abbrev pub changed_profile : Operation → Option (Class × List ℕ)
changed_profile (operation.RAlter class pattern owner uacc warning) = Some (class, pattern)
changed_profile (operation.RDelete class pattern) = Some (class, pattern)
changed_profile (operation.Permit class pattern id level when) = Some (class, pattern)
changed_profile (operation.PermitDelete class pattern id when) = Some (class, pattern)
changed_profile other = None

-- The user owns that profile; an operation on something else has no owner.
abbrev pub Owns : Policy → User → Option (Class × List ℕ) → Type 0
Owns p user None = ⊥
Owns p user (Some changed) = (profile : Profile) × (profile_of p.profiles changed.0 changed.1 ≡ Some profile)
    × (profile.owner ≡ user.id)

-- The acting user has SPECIAL, or owns the profile that is changed.
pub record MayChange (s : State) (console : ConsoleRow) (o : Operation) : Type 0 where
  pub user : User
  pub acts : acting s console ≡ Some user
  pub right : (user.special ≡ true) ⊎ Owns s.policy user (changed_profile o)

abbrev pub RightsAreOfSpecialAndOwners : Type 0
RightsAreOfSpecialAndOwners = (s : State) (console : ConsoleRow) (o : Operation)
    → (may_change s console o ≡ true) ↔ MayChange s console o

-- SPECIAL and AUDITOR see everything,
abbrev pub SeesAll : User → Type 0
SeesAll user = (user.special ≡ true) ⊎ (user.auditor ≡ true)

-- a profile is also seen by its owner, and by whoever holds READ in it,
pub record MaySeeProfile (s : State) (console : ConsoleRow) (p : Profile) : Type 0 where
  pub user : User
  pub acts : acting s console ≡ Some user
  pub right : (SeesAll user ⊎ (p.owner ≡ user.id)) ⊎ (includes (held_at s console user p) Read ≡ true)

abbrev pub ProfilesAreSeenByReaders : Type 0
ProfilesAreSeenByReaders = (s : State) (console : ConsoleRow) (p : Profile)
    → (profile_shown s console p ≡ true) ↔ MaySeeProfile s console p

-- the account by nobody else,
abbrev pub AccountIsSeenByAuditors : Type 0
AccountIsSeenByAuditors = (s : State) (console : ConsoleRow)
    → (account_shown s console ≡ true) ↔ ((user : User) × (acting s console ≡ Some user) × SeesAll user)

-- and SPECIAL alone imports.
abbrev pub ImportsAreOfSpecial : Type 0
ImportsAreOfSpecial = (s : State) (console : ConsoleRow)
    → (is_special (acting s console) ≡ true) ↔ ((user : User) × (acting s console ≡ Some user) × (user.special ≡ true))

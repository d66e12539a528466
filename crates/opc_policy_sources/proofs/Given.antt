-- The source gives the level.
use Rattle.std.proofs.Common.{◌≡◌, ℕ, suc, Bool, true, false, List, [], ◌∷◌, Option, Some, None, IfSome, refl, arith, if◌then◌else◌}
use Rattle.std.specs.Prelude.{Contains, unwrap_or, codes}
use Rattle.std.specs.Option.{option_or}
use Rattle.opc_names.specs.declared.level.Level.{Level}
use Rattle.opc_names.specs.declared.level.Level.TheVariants as level
use Rattle.opc_names.specs.Authority.{includes}
use Rattle.opc_policy_members.specs.Access.{entry_level}
use Rattle.opc_policy_members.specs.declared.profile.Profile.{Profile}
use Rattle.opc_policy_members.specs.declared.user.User.{User}
use Rattle.opc_policy_sources.specs.declared.sources.HeldLevel.{HeldLevel}
use Rattle.opc_policy_sources.specs.declared.sources.LevelSource.{LevelSource}
use Rattle.opc_policy_sources.specs.declared.sources.LevelSource.TheVariants.{Own, Group, Everyone, Universal, Restricted}
use Rattle.opc_policy_sources.specs.Sources.{
  IsGiven,
  everyone_source,
  first_highest,
  first_source,
  from_entry,
  gives,
  group_source,
  held_from,
  plain_source,
  raised,
  universal_source,
}

pub either : (P : HeldLevel → Type 0) (a b : Option HeldLevel) → IfSome a P → IfSome b P → IfSome (option_or a b) P
either P None b one other = other
either P (Some a) b one other = one

chosen : (P : HeldLevel → Type 0) (b : Bool) (x y : HeldLevel) → P x → P y → P (if b then x else y)
chosen P true x y one other = one
chosen P false x y one other = other

pub highest : (P : HeldLevel → Type 0) (a b : Option HeldLevel) → IfSome a P → IfSome b P → IfSome (first_highest a b) P
highest P None b one other = other
highest P (Some a) None one other = one
highest P (Some a) (Some b) one other = chosen P (includes a.level b.level) a b one other

pub last : (P : HeldLevel → Type 0) (a : Option HeldLevel) (h : HeldLevel) → IfSome a P → P h → P (unwrap_or a h)
last P None h one other = other
last P (Some a) h one other = one

raising : (P : HeldLevel → Type 0) (h : HeldLevel) (a : Option HeldLevel) → P h → IfSome a P → P (raised h a)
raising P h None one other = one
raising P h (Some a) one other = chosen P (includes h.level a.level) h a one other

module _ (p : Profile) (user : User) (all : List (List ℕ)) where
  of_entry : (source : LevelSource) (when : Option (List ℕ)) (level : Option Level)
      → ((l : Level) → level ≡ Some l → gives p user all l when source) → IfSome (from_entry source when level) (IsGiven p user all)
  of_entry source when None so = tt
  of_entry source when (Some level) so = so level refl

  of_groups : (when : Option (List ℕ)) (groups : List (List ℕ)) → ((g : List ℕ) → Contains groups g → Contains all g)
      → IfSome (group_source p.entries when groups) (IsGiven p user all)
  of_groups when [] among = tt
  of_groups when (group ∷ groups) among =
      highest (IsGiven p user all) (from_entry (Group group) when (entry_level p.entries when group))
      (group_source p.entries when groups)
      (of_entry (Group group) when (entry_level p.entries when group) (λ l is. (among group (0, omega arith, refl), is)))
      (of_groups when groups (λ g has. among g (suc has.0, omega arith, has.2)))

  of_everyone : (when : Option (List ℕ)) → IfSome (everyone_source p.entries when user) (IsGiven p user all)
  of_everyone when = go user.restricted refl
    where
      go : (b : Bool) → user.restricted ≡ b
          → IfSome (if b then None else from_entry Everyone when (entry_level p.entries when (codes "*"))) (IsGiven p user all)
      go true is = tt
      go false is = of_entry Everyone when (entry_level p.entries when (codes "*")) (λ l has. (is, has))

  of_entries : (when : Option (List ℕ)) → IfSome (first_source p.entries when user all) (IsGiven p user all)
  of_entries when =
      either (IsGiven p user all) (from_entry Own when (entry_level p.entries when user.id))
      (option_or (group_source p.entries when all) (everyone_source p.entries when user))
      (of_entry Own when (entry_level p.entries when user.id) (λ l is. is))
      (either (IsGiven p user all) (group_source p.entries when all) (everyone_source p.entries when user)
      (of_groups when all (λ g has. has)) (of_everyone when))

  of_universal : IsGiven p user all (universal_source p user)
  of_universal = go user.restricted refl
    where
      go : (b : Bool) → user.restricted ≡ b
          → IsGiven p user all (if b then record { level = level.None; source = Restricted; when = None }
          else record { level = p.uacc; source = Universal; when = None })
      go true is = (is, refl, refl)
      go false is = (is, refl, refl)

  of_plain : IsGiven p user all (plain_source p user all)
  of_plain = last (IsGiven p user all) (first_source p.entries None user all) (universal_source p user) (of_entries None)
      of_universal

  pub held_given : (console : Option (List ℕ)) → IsGiven p user all (held_from p user console all)
  held_given None = of_plain
  held_given (Some console) = raising (IsGiven p user all) (plain_source p user all)
      (first_source p.entries (Some console) user all) of_plain (of_entries (Some console))

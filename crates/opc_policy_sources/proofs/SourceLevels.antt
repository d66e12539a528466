-- The level that comes with a source is the level held.
use Rattle.std.proofs.Common.{◌≡◌, ℕ, Bool, true, false, List, [], ◌∷◌, Option, Some, None, refl, sym, ap, ap₂, ◌∙◌, if◌then◌else◌}
use Rattle.std.specs.Prelude.{option_map, unwrap_or, codes}
use Rattle.std.specs.Option.{option_or}
use Rattle.opc_names.specs.declared.level.Level.{Level}
use Rattle.opc_names.specs.declared.level.Level.TheVariants as level
use Rattle.opc_names.specs.Authority.{includes}
use Rattle.opc_policy_members.specs.Access.{entry_level, everyone_level, first_level, higher, higher_level, highest_level}
use Rattle.opc_policy_members.specs.Held.{held, plain_level, universal_level}
use Rattle.opc_policy_members.specs.declared.entry.Entry.{Entry}
use Rattle.opc_policy_members.specs.declared.profile.Profile.{Profile}
use Rattle.opc_policy_members.specs.declared.user.User.{User}
use Rattle.opc_policy_sources.specs.declared.sources.HeldLevel.{HeldLevel}
use Rattle.opc_policy_sources.specs.declared.sources.LevelSource.{LevelSource}
use Rattle.opc_policy_sources.specs.declared.sources.LevelSource.TheVariants.{Own, Group, Everyone, Universal, Restricted}
use Rattle.opc_policy_sources.specs.Sources.{
  everyone_source,
  first_highest,
  first_source,
  from_entry,
  group_source,
  held_from,
  highest_first,
  plain_source,
  raised,
  universal_source,
}

abbrev level_in : Option HeldLevel → Option Level
level_in source = option_map (λ (h : HeldLevel). h.level) source

of_entry : (source : LevelSource) (when : Option (List ℕ)) (level : Option Level) → level_in (from_entry source when level) ≡ level
of_entry source when None = refl
of_entry source when (Some level) = refl

chosen : (b : Bool) (x y : HeldLevel) → (if b then x else y).level ≡ (if b then x.level else y.level)
chosen true x y = refl
chosen false x y = refl

of_highest : (a b : HeldLevel) → (highest_first a b).level ≡ higher_level a.level b.level
of_highest a b = chosen (includes a.level b.level) a b

of_first : (a b : Option HeldLevel) → level_in (first_highest a b) ≡ higher (level_in a) (level_in b)
of_first None b = refl
of_first (Some a) None = refl
of_first (Some a) (Some b) = ap (λ (l : Level). Some l) (of_highest a b)

of_groups : (entries : List Entry) (when : Option (List ℕ)) (groups : List (List ℕ))
    → level_in (group_source entries when groups) ≡ highest_level entries when groups
of_groups entries when [] = refl
of_groups entries when (group ∷ groups) =
    of_first (from_entry (Group group) when (entry_level entries when group)) (group_source entries when groups)
    ∙ ap₂ higher (of_entry (Group group) when (entry_level entries when group)) (of_groups entries when groups)

-- what a RESTRICTED user does not get
without : (b : Bool) (a : Option HeldLevel) → level_in (if b then None else a) ≡ (if b then None else level_in a)
without true a = refl
without false a = refl

of_everyone : (entries : List Entry) (when : Option (List ℕ)) (user : User)
    → level_in (everyone_source entries when user) ≡ everyone_level entries when user
of_everyone entries when user = without user.restricted (from_entry Everyone when (entry_level entries when (codes "*")))
    ∙ ap (λ l. if user.restricted then None else l) (of_entry Everyone when (entry_level entries when (codes "*")))

of_either : (a b : Option HeldLevel) → level_in (option_or a b) ≡ option_or (level_in a) (level_in b)
of_either None b = refl
of_either (Some a) b = refl

of_entries : (entries : List Entry) (when : Option (List ℕ)) (user : User) (groups : List (List ℕ))
    → level_in (first_source entries when user groups) ≡ first_level entries when user groups
of_entries entries when user groups =
    of_either (from_entry Own when (entry_level entries when user.id))
    (option_or (group_source entries when groups) (everyone_source entries when user))
    ∙ ap₂ option_or (of_entry Own when (entry_level entries when user.id))
    (of_either (group_source entries when groups) (everyone_source entries when user)
    ∙ ap₂ option_or (of_groups entries when groups) (of_everyone entries when user))

of_universal : (p : Profile) (user : User) → (universal_source p user).level ≡ universal_level p user
of_universal p user =
    chosen user.restricted (record { level = level.None; source = Restricted; when = None })
    (record { level = p.uacc; source = Universal; when = None })

of_default : (a : Option HeldLevel) (h : HeldLevel) → (unwrap_or a h).level ≡ unwrap_or (level_in a) h.level
of_default None h = refl
of_default (Some a) h = refl

of_plain : (p : Profile) (user : User) (groups : List (List ℕ)) → (plain_source p user groups).level ≡ plain_level p user groups
of_plain p user groups =
    of_default (first_source p.entries None user groups) (universal_source p user)
    ∙ ap₂ (λ a l. unwrap_or a l) (of_entries p.entries None user groups) (of_universal p user)

-- a level that is no higher than NONE raises none
nothing : (l : Level) → higher_level l level.None ≡ l
nothing level.None = refl
nothing level.Read = refl
nothing level.Update = refl
nothing level.Control = refl
nothing level.Alter = refl

of_raised : (h : HeldLevel) (o : Option HeldLevel) → (raised h o).level ≡ higher_level h.level (unwrap_or (level_in o) level.None)
of_raised h None = sym (nothing h.level)
of_raised h (Some a) = of_highest h a

pub held_so : (p : Profile) (user : User) (console : Option (List ℕ)) (groups : List (List ℕ))
    → (held_from p user console groups).level ≡ held p user console groups
unfolding held
held_so p user None groups = of_plain p user groups ∙ sym (nothing (plain_level p user groups))
held_so p user (Some console) groups =
    of_raised (plain_source p user groups) (first_source p.entries (Some console) user groups)
    ∙ ap₂ (λ l o. higher_level l (unwrap_or o level.None)) (of_plain p user groups)
    (of_entries p.entries (Some console) user groups)

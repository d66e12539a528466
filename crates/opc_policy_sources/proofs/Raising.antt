-- Which entries raise a level at one console alone.
use Rattle.std.proofs.Common.{◌≡◌, ℕ, Bool, true, false, List, [], ◌∷◌, Option, Some, None, IfSome, refl, sym, ap, ap₂, ◌∙◌, if◌then◌else◌}
use Rattle.std.specs.Prelude.{◌&&◌, option_map, codes, find}
use Rattle.std.specs.List.{list_any}
use Rattle.std.specs.Option.{is_some, option_eq, option_or}
use Rattle.std.specs.Str.{bytes_eq}
use Rattle.opc_names.specs.declared.level.Level.{Level}
use Rattle.opc_names.specs.declared.level.Level.TheVariants as level
use Rattle.opc_names.specs.Authority.{includes}
use Rattle.opc_policy_members.specs.Access.{entry_level, is_for}
use Rattle.opc_policy_members.specs.declared.entry.Entry.{Entry}
use Rattle.opc_policy_members.specs.declared.profile.Profile.{Profile}
use Rattle.opc_policy_members.specs.declared.user.User.{User}
use Rattle.opc_policy_sources.specs.declared.sources.HeldLevel.{HeldLevel}
use Rattle.opc_policy_sources.specs.declared.sources.LevelSource.{LevelSource}
use Rattle.opc_policy_sources.specs.declared.sources.LevelSource.TheVariants.{Own, Group, Everyone, Universal, Restricted}
use Rattle.opc_policy_sources.specs.Sources.{
  everyone_source,
  first_highest,
  first_source,
  from_entry,
  group_source,
  held_from,
  plain_source,
  raised,
  universal_source,
}
use Rattle.opc_policy_sources.proofs.Given.{either, highest, last}

-- a level by an entry has the entry's condition
abbrev Has : Option (List ℕ) → HeldLevel → Type 0
Has when h = h.when ≡ when

entry_has : (source : LevelSource) (when : Option (List ℕ)) (level : Option Level) → IfSome (from_entry source when level) (Has when)
entry_has source when None = tt
entry_has source when (Some level) = refl

groups_have : (entries : List Entry) (when : Option (List ℕ)) (groups : List (List ℕ)) → IfSome (group_source entries when groups) (Has when)
groups_have entries when [] = tt
groups_have entries when (group ∷ groups) =
    highest (Has when) (from_entry (Group group) when (entry_level entries when group)) (group_source entries when groups)
    (entry_has (Group group) when (entry_level entries when group)) (groups_have entries when groups)

everyone_has : (entries : List Entry) (when : Option (List ℕ)) (user : User) → IfSome (everyone_source entries when user) (Has when)
everyone_has entries when user = go user.restricted
  where
    go : (b : Bool) → IfSome (if b then None else from_entry Everyone when (entry_level entries when (codes "*"))) (Has when)
    go true = tt
    go false = entry_has Everyone when (entry_level entries when (codes "*"))

first_has : (entries : List Entry) (when : Option (List ℕ)) (user : User) (groups : List (List ℕ))
    → IfSome (first_source entries when user groups) (Has when)
first_has entries when user groups =
    either (Has when) (from_entry Own when (entry_level entries when user.id))
    (option_or (group_source entries when groups) (everyone_source entries when user))
    (entry_has Own when (entry_level entries when user.id))
    (either (Has when) (group_source entries when groups) (everyone_source entries when user)
    (groups_have entries when groups) (everyone_has entries when user))

universal_has : (p : Profile) (user : User) → Has None (universal_source p user)
universal_has p user = go user.restricted
  where
    go : (b : Bool) → Has None (if b then record { level = level.None; source = Restricted; when = None }
        else record { level = p.uacc; source = Universal; when = None })
    go true = refl
    go false = refl

plain_has : (p : Profile) (user : User) (groups : List (List ℕ)) → Has None (plain_source p user groups)
plain_has p user groups =
    last (Has None) (first_source p.entries None user groups) (universal_source p user)
    (first_has p.entries None user groups) (universal_has p user)

-- where no entry for a console alone gives the level, it is the one held at every console
unraised : (plain : HeldLevel) (console : List ℕ) (o : Option HeldLevel) → IfSome o (Has (Some console))
    → is_some (raised plain o).when ≡ false → raised plain o ≡ plain
unraised plain console None has none = refl
unraised plain console (Some h) has none = go (includes plain.level h.level) none
  where
    go : (b : Bool) → is_some (if b then plain else h).when ≡ false → (if b then plain else h) ≡ plain
    go true none = refl
    go false none = absurd (let same : is_some h.when ≡ true = ap (λ w. is_some w) has in let not : true ≡ false = sym same ∙ none in cc)

pub plain_where_none_raises : (p : Profile) (user : User) (console : List ℕ) (groups : List (List ℕ))
    → is_some (held_from p user (Some console) groups).when ≡ false → held_from p user (Some console) groups ≡ held_from p user None groups
plain_where_none_raises p user console groups none =
    unraised (plain_source p user groups) console (first_source p.entries (Some console) user groups)
    (first_has p.entries (Some console) user groups) none

-- without an entry for a console alone there is none that raises
abbrev names : List ℕ → Entry → Bool
names console e = option_eq bytes_eq e.when (Some console)

both_false : (a : Bool) → (a && false) ≡ false
both_false true = refl
both_false false = refl

not_found : (console id : List ℕ) (entries : List Entry) → list_any (names console) entries ≡ false → find (is_for (Some console) id) entries ≡ None
not_found console id [] none = refl
not_found console id (e ∷ entries) none = go (names console e) refl (not_found console id entries)
  where
    go : (b : Bool) → names console e ≡ b → (list_any (names console) entries ≡ false → find (is_for (Some console) id) entries ≡ None)
        → find (is_for (Some console) id) (e ∷ entries) ≡ None
    go true is later = absurd (let one : list_any (names console) (e ∷ entries) ≡ true = rw is refl in let not : true ≡ false = sym one ∙ none in cc)
    go false is later =
        let rest : list_any (names console) entries ≡ false = rw is at none in
        rw is (rw (both_false (bytes_eq e.id id)) (later rest))

no_entry : (console id : List ℕ) (entries : List Entry) → list_any (names console) entries ≡ false → entry_level entries (Some console) id ≡ None
no_entry console id entries none = ap (λ e. option_map (λ (e : Entry). e.level) e) (not_found console id entries none)

no_group : (console : List ℕ) (entries : List Entry) (groups : List (List ℕ)) → list_any (names console) entries ≡ false
    → group_source entries (Some console) groups ≡ None
no_group console entries [] none = refl
no_group console entries (group ∷ groups) none =
    ap₂ first_highest (ap (from_entry (Group group) (Some console)) (no_entry console group entries none)) (no_group console entries groups none)

no_one : (console : List ℕ) (entries : List Entry) (user : User) → list_any (names console) entries ≡ false → everyone_source entries (Some console) user ≡ None
no_one console entries user none = go user.restricted
  where
    go : (b : Bool) → (if b then None else from_entry Everyone (Some console) (entry_level entries (Some console) (codes "*"))) ≡ None
    go true = refl
    go false = ap (from_entry Everyone (Some console)) (no_entry console (codes "*") entries none)

no_source : (console : List ℕ) (entries : List Entry) (user : User) (groups : List (List ℕ)) → list_any (names console) entries ≡ false
    → first_source entries (Some console) user groups ≡ None
no_source console entries user groups none =
    ap₂ option_or (ap (from_entry Own (Some console)) (no_entry console user.id entries none))
    (ap₂ option_or (no_group console entries groups none) (no_one console entries user none))

pub unnamed_raises_none : (p : Profile) (user : User) (console : List ℕ) (groups : List (List ℕ))
    → list_any (names console) p.entries ≡ false → is_some (held_from p user (Some console) groups).when ≡ false
unnamed_raises_none p user console groups none =
    ap (λ o. is_some (raised (plain_source p user groups) o).when) (no_source console p.entries user groups none)
    ∙ ap (λ w. is_some w) (plain_has p user groups)

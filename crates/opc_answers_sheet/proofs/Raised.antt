-- For which console alone an entry gives the level that a line has.
use Rattle.std.proofs.Common.{◌≡◌, ◌⊎◌, ◌∙◌, ℕ, Bool, true, false, List, [], ◌∷◌, Option, Some, None, IfSome, inl, inr, ap, sym, refl, if◌then◌else◌}
use Rattle.std.specs.Prelude.{◌||◌, codes, option_map}
use Rattle.std.specs.Option.{is_some, option_eq, option_or}
use Rattle.std.specs.Str.{bytes_eq}
use Rattle.std.proofs.lemmas.Slice.Eq.{bytes_eq-Decides}
use Rattle.opc_names.specs.declared.level.Level.{Level}
use Rattle.opc_names.specs.declared.level.Level.TheVariants as level
use Rattle.opc_names.specs.Authority.{includes}
use Rattle.opc_terms.specs.declared.rule.Rule.TheVariants as rule
use Rattle.opc_policy.specs.declared.ruling.Ruling.TheVariants.{Denied}
use Rattle.opc_policy_members.specs.Access.{entry_level}
use Rattle.opc_policy_members.specs.declared.entry.Entry.{Entry}
use Rattle.opc_policy_members.specs.declared.profile.Profile.{Profile}
use Rattle.opc_policy_members.specs.declared.user.User.{User}
use Rattle.opc_policy_sources.specs.declared.sources.HeldLevel.{HeldLevel}
use Rattle.opc_policy_sources.specs.declared.sources.LevelSource.{LevelSource}
use Rattle.opc_policy_sources.specs.declared.sources.LevelSource.TheVariants.{Own, Group, Everyone, Universal, Restricted}
use Rattle.opc_policy_sources.specs.Sources.{everyone_source, first_source, from_entry, group_source, held_from, plain_source, raised, universal_source}
use Rattle.opc_policy_sources.proofs.Given.{either, highest, last}
use Rattle.opc_answers.specs.declared.lines.UserLine.{UserLine}
use Rattle.opc_answers.specs.declared.logons.Instead.TheVariants as instead
use Rattle.opc_answers.specs.declared.logons.NoLogon.{NoLogon}
use Rattle.opc_answers.specs.declared.members.UserWithGroups.{UserWithGroups}
use Rattle.opc_answers.specs.Who.{by_profile, is_denied, is_raised, line, member_line, unless_on}
use Rattle.opc_answers_sheet.specs.Ways.{console_of}

-- what holds of each entry with a condition holds of the first one
module _ (P : HeldLevel → Type 0) (when : Option (List ℕ))
    (each : (source : LevelSource) (level : Level) → P (record { level = level; source = source; when = when })) where
  by_entry : (source : LevelSource) (level : Option Level) → IfSome (from_entry source when level) P
  by_entry source None = tt
  by_entry source (Some level) = each source level

  by_groups : (entries : List Entry) (groups : List (List ℕ)) → IfSome (group_source entries when groups) P
  by_groups entries [] = tt
  by_groups entries (group ∷ groups) =
      highest P (from_entry (Group group) when (entry_level entries when group)) (group_source entries when groups)
      (by_entry (Group group) (entry_level entries when group)) (by_groups entries groups)

  by_everyone : (entries : List Entry) (user : User) → IfSome (everyone_source entries when user) P
  by_everyone entries user = go user.restricted
    where
      go : (b : Bool) → IfSome (if b then None else from_entry Everyone when (entry_level entries when (codes "*"))) P
      go true = tt
      go false = by_entry Everyone (entry_level entries when (codes "*"))

  by_first : (entries : List Entry) (user : User) (groups : List (List ℕ)) → IfSome (first_source entries when user groups) P
  by_first entries user groups =
      either P (from_entry Own when (entry_level entries when user.id)) (option_or (group_source entries when groups) (everyone_source entries when user))
      (by_entry Own (entry_level entries when user.id))
      (either P (group_source entries when groups) (everyone_source entries when user) (by_groups entries groups) (by_everyone entries user))

-- without a console it is an entry for every console, or none
plain_when : (p : Profile) (user : User) (groups : List (List ℕ)) → (plain_source p user groups).when ≡ None
plain_when p user groups =
    last (λ h. h.when ≡ None) (first_source p.entries None user groups) (universal_source p user)
    (by_first (λ h. h.when ≡ None) None (λ s l. refl) p.entries user groups) (go user.restricted)
  where
    go : (b : Bool) → (if b then (let h : HeldLevel = record { level = level.None; source = Restricted; when = None } in h)
        else record { level = p.uacc; source = Universal; when = None }).when ≡ None
    go true = refl
    go false = refl

-- at a console it may also be one for that console alone
module _ (console : List ℕ) where
  abbrev IsThere : HeldLevel → Type 0
  IsThere h = (h.when ≡ None) ⊎ (h.when ≡ Some console)

  raised_there : (plain : HeldLevel) (o : Option HeldLevel) → plain.when ≡ None → IfSome o (λ h. h.when ≡ Some console)
      → IsThere (raised plain o)
  raised_there plain None none some = inl none
  raised_there plain (Some h) none some = go (includes plain.level h.level)
    where
      go : (b : Bool) → IsThere (if b then plain else h)
      go true = inl none
      go false = inr some

  held_there : (p : Profile) (user : User) (groups : List (List ℕ)) → IsThere (held_from p user (Some console) groups)
  held_there p user groups =
      raised_there (plain_source p user groups) (first_source p.entries (Some console) user groups) (plain_when p user groups)
      (by_first (λ h. h.when ≡ Some console) (Some console) (λ s l. refl) p.entries user groups)

  is_this : (when : Option (List ℕ)) → (when ≡ None) ⊎ (when ≡ Some console) → option_eq bytes_eq when (Some console) ≡ is_some when
  is_this when (inl none) = ap (λ w. option_eq bytes_eq w (Some console)) none ∙ sym (ap (λ w. is_some w) none)
  is_this when (inr some) =
      ap (λ w. option_eq bytes_eq w (Some console)) some ∙ ((bytes_eq-Decides console console).1 refl ∙ sym (ap (λ w. is_some w) some))

  is_either : (when : Option (List ℕ)) → (when ≡ None) ⊎ (when ≡ Some console)
      → (option_eq bytes_eq when None || option_eq bytes_eq when (Some console)) ≡ true
  is_either when (inl none) = ap (λ w. option_eq bytes_eq w None || option_eq bytes_eq w (Some console)) none
  is_either when (inr some) =
      ap (λ w. option_eq bytes_eq w None || option_eq bytes_eq w (Some console)) some ∙ (bytes_eq-Decides console console).1 refl

-- the same of lines
abbrev line_by : (revoked : Bool) → Option Profile → Option (List ℕ) → Level → UserWithGroups → UserLine
line_by revoked decided console level m =
    if revoked then line m.user (Some (Denied rule.Revoked)) None else by_profile decided console level m.groups m.user

pub for_no_console : (decided : Option Profile) (level : Level) (m : UserWithGroups) → console_of (member_line decided None level m).held ≡ None
for_no_console decided level m = go m.user.revoked decided
  where
    go : (b : Bool) (d : Option Profile) → console_of (line_by b d None level m).held ≡ None
    go true d = refl
    go false None = refl
    go false (Some p) = plain_when p m.user m.groups

pub for_this_console : (decided : Option Profile) (console : List ℕ) (level : Level) (m : UserWithGroups)
    → option_eq bytes_eq (console_of (member_line decided (Some console) level m).held) (Some console)
    ≡ is_raised (member_line decided (Some console) level m)
for_this_console decided console level m = go m.user.revoked decided
  where
    go : (b : Bool) (d : Option Profile) → option_eq bytes_eq (console_of (line_by b d (Some console) level m).held) (Some console)
        ≡ is_raised (line_by b d (Some console) level m)
    go true d = refl
    go false None = refl
    go false (Some p) = is_this console (held_from p m.user (Some console) m.groups).when (held_there console p m.user m.groups)

pub for_either : (decided : Option Profile) (console : List ℕ) (level : Level) (m : UserWithGroups)
    → (option_eq bytes_eq (console_of (member_line decided (Some console) level m).held) None
    || option_eq bytes_eq (console_of (member_line decided (Some console) level m).held) (Some console)) ≡ true
for_either decided console level m = go m.user.revoked decided
  where
    go : (b : Bool) (d : Option Profile) → (option_eq bytes_eq (console_of (line_by b d (Some console) level m).held) None
        || option_eq bytes_eq (console_of (line_by b d (Some console) level m).held) (Some console)) ≡ true
    go true d = refl
    go false None = refl
    go false (Some p) = is_either console (held_from p m.user (Some console) m.groups).when (held_there console p m.user m.groups)

-- that a user cannot log on leaves the level
pub still_held : (why : Option NoLogon) (l : UserLine) → (unless_on why l).held ≡ l.held
still_held why l = go (is_denied l.ruling)
  where
    go : (b : Bool) → (if b then l else record l { instead = option_map instead.NoLogon why }).held ≡ l.held
    go true = refl
    go false = refl

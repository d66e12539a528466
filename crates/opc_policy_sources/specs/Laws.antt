-- The laws of entries for one console alone.
use Rattle.std.specs.Prelude.{◌≡◌, ℕ, false, List, Some, None}
use Rattle.std.specs.List.{list_any}
use Rattle.std.specs.Option.{is_some, option_eq}
use Rattle.std.specs.Str.{bytes_eq}
use Rattle.opc_policy_members.specs.declared.entry.Entry.{Entry}
use Rattle.opc_policy_members.specs.declared.profile.Profile.{Profile}
use Rattle.opc_policy_members.specs.declared.user.User.{User}
use Rattle.opc_policy_sources.specs.Sources.{held_from}

-- If no entry for a console alone gives the level, a user holds there what is held at every console, by the same
-- source.
abbrev pub HeldAsElsewhere : Type 0
HeldAsElsewhere = (p : Profile) (user : User) (console : List ℕ) (groups : List (List ℕ))
    → is_some (held_from p user (Some console) groups).when ≡ false
    → held_from p user (Some console) groups ≡ held_from p user None groups

-- If the access list has no entry for a console alone, none gives the level there.
abbrev pub UnnamedRaisesNone : Type 0
UnnamedRaisesNone = (p : Profile) (user : User) (console : List ℕ) (groups : List (List ℕ))
    → list_any (λ (e : Entry). option_eq bytes_eq e.when (Some console)) p.entries ≡ false
    → is_some (held_from p user (Some console) groups).when ≡ false

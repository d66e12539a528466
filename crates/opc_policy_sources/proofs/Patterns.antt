-- The patterns of profiles, with the level held in each or without.
use Rattle.std.proofs.Common.{◌≡◌, ◌∷◌, ℕ, List, [], Option, ap, map, refl}
use Rattle.opc_policy_members.specs.declared.profile.Profile.{Profile}
use Rattle.opc_policy_members.specs.declared.user.User.{User}
use Rattle.opc_policy_sources.specs.Levels.{level_in, pattern_of}

pub same_patterns : (user : User) (console : Option (List ℕ)) (groups : List (List ℕ)) (profiles : List Profile)
    → map pattern_of (map (level_in user console groups) profiles) ≡ map (λ (p : Profile). p.pattern) profiles
same_patterns user console groups [] = refl
same_patterns user console groups (p ∷ more) = ap (λ rest. p.pattern ∷ rest) (same_patterns user console groups more)

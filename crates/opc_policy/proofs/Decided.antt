-- The ruling of a profile that decides, by its verdict and its rule.
use Rattle.std.proofs.Common.{◌≡◌, refl, ℕ, Bool, true, false, List}
use Rattle.std.specs.Prelude.{Option, Some, ◌||◌, if◌then◌else◌}
use Rattle.opc_names.specs.Authority.{includes}
use Rattle.opc_names.specs.declared.level.Level.{Level}
use Rattle.opc_policy_members.specs.Held.{held}
use Rattle.opc_policy.specs.Rulings.{by_verdict, profile_rule, profile_ruling, verdict}
use Rattle.opc_policy_members.specs.declared.profile.Profile.{Profile}
use Rattle.opc_terms.specs.declared.rule.Rule.{Rule}
use Rattle.opc_policy.specs.declared.ruling.Ruling.{Ruling}
use Rattle.opc_policy.specs.declared.ruling.Ruling.TheVariants as rulings
use Rattle.opc_policy_members.specs.declared.user.User.{User}
use Rattle.opc_policy.specs.declared.verdict.Verdict.TheVariants.{Allowed, Denied}

by_either : (rule : Rule) (other : Ruling) (b : Bool)
    → by_verdict (if b then Allowed else Denied) rule other ≡ (if b then rulings.Allowed rule else rulings.Denied rule)
by_either rule other true = refl
by_either rule other false = refl

-- whatever else there is to decide
pub ruling_by_verdict : (p : Profile) (user : User) (console : Option (List ℕ)) (groups : List (List ℕ)) (needed : Level) (other : Ruling) →
    by_verdict (verdict true (Some p) user console groups needed) (profile_rule p user console groups needed)
    other ≡ profile_ruling p user console groups needed
ruling_by_verdict p user console groups needed other =
    by_either (profile_rule p user console groups needed) other
    (includes (held p user console groups) needed || p.warning)

-- What a user may change is what the gate lets the user do.
use Rattle.std.proofs.Common.{◌≡◌, ◌∙◌, ap, refl, Bool, true, false, ◌||◌, Some}
use Rattle.std.specs.Prelude.{◌&&◌, not}
use Rattle.std.specs.Str.{bytes_eq}
use Rattle.opc_policy_members.specs.Profiles.{profile_of}
use Rattle.opc_machine.specs.Rights.{is_owner, is_special, owns_changed, sees_all}
use Rattle.opc_answers_may.specs.MayLaws.{BothSeeTheAccount, OwnersPermit, SpecialChanges}

pub special_changes : SpecialChanges
special_changes s c u o acts special =
    ap (λ a. is_special a || owns_changed s.policy a o) acts ∙ ap (λ b. b || owns_changed s.policy (Some u) o) special

unless_special : (b e : Bool) → (b || e) ≡ (b || (not b && e))
unless_special true e = refl
unless_special false e = refl

pub owners_permit : OwnersPermit
owners_permit s c u p id level console acts stored =
    ap (λ a. is_special a || is_owner a (profile_of s.policy.profiles p.class p.pattern)) acts
    ∙ ap (λ q. u.special || is_owner (Some u) q) stored ∙ unless_special u.special (bytes_eq p.owner u.id)

pub both_see_the_account : BothSeeTheAccount
both_see_the_account s c u acts = ap sees_all acts

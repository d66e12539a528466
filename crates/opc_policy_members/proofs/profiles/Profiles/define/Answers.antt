use Rattle.std.proofs.Common.{◌≡◌, ◌∙◌, ap, sym, refl, Some}
use Rattle.opc_policy_members.proofs.ProfilesByKey.{put-twice}
use Rattle.opc_policy_members.specs.declared.profile.Profile.{Profile}
use Rattle.opc_policy_members.specs.Profiles.{profile_of, with_profile}
use Rattle.opc_policy_members.proofs.profiles.Profiles.define.Goals as goal

pub returns-in_ok-put-clause-ok : goal.returns-in_ok-put-clause-ok
returns-in_ok-put-clause-ok c =
    let profile = c.args.profile in
    let found : profile_of c.args.self.now profile.class profile.pattern ≡ Some c.in-Some.replaced = sym c.in_ok-replaced.ensures.replaced ∙ c.in-Some.is in
    let new : Profile = record profile { entries = c.in-Some.replaced.entries } in
    c.in_ok-put.ensures.ok ∙ ap (with_profile new) c.in_ok-replaced.ensures.ok ∙ put-twice profile c.in-Some.replaced.entries c.args.self.now ∙ rw found refl

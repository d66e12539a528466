use Rattle.std.proofs.Common.{◌∙◌, ap}
use Rattle.opc_policy_members.proofs.ProfilesByKey.{lookup-profile}
use Rattle.opc_policy_members.specs.Profiles.{profile_of}
use Rattle.opc_policy_members.proofs.profiles.Profiles.get.Goals as goal

pub returns : goal.returns
returns c =
    c.get.ensures.value
    ∙ rw c.sort_key.ensures.key (lookup-profile c.args.class c.args.pattern.now _ c.sort_key.ensures.valid c.self.invariant)
    ∙ ap (λ profiles. profile_of profiles c.args.class c.args.pattern.now) c.self.view_is

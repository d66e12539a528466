use Rattle.std.proofs.Common.{◌∙◌, ap, sym}
use Rattle.std.proofs.lemmas.Result.{err_from_is_err_and}
use Rattle.opc_policy_members.proofs.ProfilesByKey.{AreByKey-insert, lookup-profile, values-with_profile}
use Rattle.opc_policy_members.specs.Profiles.{profile_of, with_profile}
use Rattle.opc_policy_members.proofs.profiles.Profiles.put.Goals as goal

pub invariant_of-self-2 : goal.invariant_of-self-2
invariant_of-self-2 c = rw (c.in_ok-replaced.ensures.entries, c.sort_key.ensures.key)
    (AreByKey-insert c.args.profile c.self.inside.by_key.entries c.sort_key.ensures.valid c.self.invariant)

pub returns-clause-ok : goal.returns-clause-ok
returns-clause-ok c =
    rw (c.in_ok-replaced.ensures.entries, c.sort_key.ensures.key) (values-with_profile c.args.profile c.self.inside.by_key.entries c.self.invariant)
    ∙ ap (with_profile c.args.profile) c.self.view_is

pub returns-clause-replaced : goal.returns-clause-replaced
returns-clause-replaced c =
    let profile = c.args.profile in
    rw c.sort_key.ensures.key at c.in_ok-replaced.ensures.old
    ∙ lookup-profile profile.class profile.pattern c.self.inside.by_key.entries c.sort_key.ensures.valid c.self.invariant
    ∙ ap (λ profiles. profile_of profiles profile.class profile.pattern) c.self.view_is

pub returns-clause-there : goal.returns-clause-there
returns-clause-there c =
    let profile = c.args.profile in
    sym (lookup-profile profile.class profile.pattern c.insert.new.self.entries c.sort_key.ensures.valid (invariant_of-self-2 c))
    ∙ rw c.sort_key.ensures.key at c.in_ok-replaced.ensures.updates.1

pub returns-in_err-replaced-clause-absent : goal.returns-in_err-replaced-clause-absent
returns-in_err-replaced-clause-absent c =
    let profile = c.args.profile in
    let err = err_from_is_err_and c.from_residual.result c.from_residual.ensures.1 in
    rw err.1
    (sym (ap (λ profiles. profile_of profiles profile.class profile.pattern) c.self.view_is)
    ∙ sym (lookup-profile profile.class profile.pattern c.self.inside.by_key.entries c.sort_key.ensures.valid c.self.invariant)
    ∙ rw c.sort_key.ensures.key at c.in_err-replaced.ensures.absent)

use Rattle.std.proofs.Common.{◌≡◌, ◌++◌, List, map, sym, ap, ◌∙◌, append-nil, rules}
use Rattle.std.specs.Map.Iter.{deref}
use Rattle.std.proofs.lemmas.Map.Iter.{rest_so_far}
use Rattle.opc_policy_members.specs.declared.profile.Profile.{Profile}
use Rattle.opc_answers_sheet.proofs.changes.owned_by.Goals as goal

pub returns : goal.returns
returns c =
    let seen : List Profile = map deref c.loop-profile.yielded in
    let start : c.into_iter-profile-iterator.result ≡ c.args.profiles.now = search rules in
    let so_far = rest_so_far deref c.loop-profile.yielded _ _ c.loop-profile.yielded_by in
    let all_is : c.args.profiles.now ≡ seen = sym start ∙ so_far ∙ ap (λ (t : List Profile). seen ++ t) c.in-None.ensures.steps.0 ∙ append-nil seen in
    rw all_is c.loop-profile.invariant

use Rattle.std.proofs.Common.{◌≡◌, ◌∙◌, take, length, sym, ap, arith, rules}
use Rattle.std.proofs.lemmas.Iterator.Adapters.{YieldsList-from_vec}
use Rattle.std.proofs.lemmas.Iterator.Consumers.{YieldsList-turn, YieldsList-end}
use Rattle.std.proofs.lemmas.List.{take_all, length_push}
use Rattle.opc_store_whole_policy.proofs.Defined.{more_defined}
use Rattle.opc_store_whole_policy.proofs.policy.profiles_of.Goals as goal

pub loop-profile-init : goal.loop-profile-init
loop-profile-init c up = c.new-profiles.ensures

pub loop-profile-preserved : goal.loop-profile-preserved
loop-profile-preserved c up =
    let xs = c.args.list.items in
    let gives = c.into_iter-profile-iterator.ensures.into_iter_gives in
    let long : c.into_iter-profile-iterator.result.rest.len ≡ length xs = search rules in
    let t = YieldsList-turn (YieldsList-from_vec xs gives.0 long) c.loop-profile.yielded c.loop-profile.profile-iterator
    c.loop-profile.yielded_by c.next.result c.next.new.self c.in-Some.profile c.in-Some.is c.next.ensures.steps in
    c.in_ok-define.ensures.ok
    ∙ (more_defined xs up (length c.loop-profile.yielded) c.in-Some.profile t.0 t.1 c.loop-profile.profiles (c.loop-profile.invariant up)
    ∙ ap (λ k. take k xs) (sym (length_push c.loop-profile.yielded c.in-Some.profile)))

pub returns : goal.returns
returns c up =
    let xs = c.args.list.items in
    let gives = c.into_iter-profile-iterator.ensures.into_iter_gives in
    let long : c.into_iter-profile-iterator.result.rest.len ≡ length xs = search rules in
    let t = YieldsList-end (YieldsList-from_vec xs gives.0 long) c.loop-profile.yielded c.loop-profile.profile-iterator
    c.loop-profile.yielded_by c.next.result c.next.new.self c.in-None.is c.next.ensures.steps in
    c.loop-profile.invariant up ∙ take_all (length c.loop-profile.yielded) xs (omega (arith, t.1))

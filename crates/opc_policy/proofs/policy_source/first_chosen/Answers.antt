use Rattle.std.proofs.Common.{◌≡◌, ◌∷◌, ◌++◌, List, map, refl, sym, ap, ◌∙◌, append-nil, arith, rules}
use Rattle.std.specs.Map.Iter.{deref}
use Rattle.std.specs.Option.{option_copied}
use Rattle.std.proofs.lemmas.Bool.{false≢true}
use Rattle.std.proofs.lemmas.List.{map-append}
use Rattle.std.proofs.lemmas.Map.Iter.{rest_so_far}
use Rattle.std.proofs.lemmas.Result.{IfOk-weaker}
use Rattle.opc_policy.specs.Examined.{is_chosen}
use Rattle.opc_policy_members.specs.declared.profile.Profile.{Profile}
use Rattle.opc_policy.proofs.FirstCovering.{chosen_order, none_found, unfound_now, read_now, unfound_more, few_rows, covered_text, uncovered_text}
use Rattle.opc_policy.proofs.policy_source.first_chosen.Goals as goal

pub overflow_add-rows : goal.overflow_add-rows
overflow_add-rows c =
    let seen : List Profile = map deref c.loop-profile.yielded in
    let start : c.into_iter-profile-iterator.result ≡ c.args.profiles.now = search rules in
    let so_far = rest_so_far deref c.loop-profile.yielded _ _ c.loop-profile.yielded_by in
    let all_is : c.args.profiles.now ≡ seen ++ c.in-Some.profile.now ∷ c.next.new.self =
    sym start ∙ so_far ∙ ap (λ (t : List Profile). seen ++ t) c.in-Some.ensures.steps in
    let few = few_rows (is_chosen c.args.class (option_copied c.args.head)) c.args.resource.now seen c.loop-profile.rows
    c.args.profiles.now c.in-Some.profile.now c.next.new.self c.loop-profile.invariant all_is in
    let fits = c.iter-profile-items.ensures.fits in
    omega (arith, few, fits)

pub returns-then-covers-clause-first : goal.returns-then-covers-clause-first
returns-then-covers-clause-first c =
    let seen : List Profile = map deref c.loop-profile.yielded in
    let start : c.into_iter-profile-iterator.result ≡ c.args.profiles.now = search rules in
    let so_far = rest_so_far deref c.loop-profile.yielded _ _ c.loop-profile.yielded_by in
    let all_is : c.args.profiles.now ≡ seen ++ c.in-Some.profile.now ∷ c.next.new.self =
    sym start ∙ so_far ∙ ap (λ (t : List Profile). seen ++ t) c.in-Some.ensures.steps in
    let now = unfound_now (is_chosen c.args.class (option_copied c.args.head)) c.args.resource.now seen
    c.loop-profile.rows c.loop-profile.invariant c.in-Some.profile.now c.args.profiles.now c.next.new.self all_is
    (chosen_order c.args.class (option_copied c.args.head) c.args.profiles.now
    c.iter-profile-items.ensures.in_order) (sym c.if-is_chosen.ensures)
    (covered_text c.in-Some.profile.now c.args.resource.now (c.if-covers.ensures.0 refl)) in
    IfOk-weaker c.of.result _ _ (λ taken h. h.0 ∙ now) c.of.ensures

pub returns-then-covers-clause-rows : goal.returns-then-covers-clause-rows
returns-then-covers-clause-rows c =
    let seen : List Profile = map deref c.loop-profile.yielded in
    let start : c.into_iter-profile-iterator.result ≡ c.args.profiles.now = search rules in
    let so_far = rest_so_far deref c.loop-profile.yielded _ _ c.loop-profile.yielded_by in
    let all_is : c.args.profiles.now ≡ seen ++ c.in-Some.profile.now ∷ c.next.new.self =
    sym start ∙ so_far ∙ ap (λ (t : List Profile). seen ++ t) c.in-Some.ensures.steps in
    let now = read_now (is_chosen c.args.class (option_copied c.args.head)) c.args.resource.now seen c.loop-profile.rows
    c.loop-profile.invariant c.in-Some.profile.now c.args.profiles.now c.next.new.self all_is
    (chosen_order c.args.class (option_copied c.args.head) c.args.profiles.now
    c.iter-profile-items.ensures.in_order) (sym c.if-is_chosen.ensures) in
    IfOk-weaker c.of.result _ _ (λ taken h. rw (h.0) (h.1 ∙ now)) c.of.ensures

pub loop-profile-preserved-else-covers : goal.loop-profile-preserved-else-covers
loop-profile-preserved-else-covers c =
    let uncovered = uncovered_text c.in-Some.profile.now c.args.resource.now (λ k. false≢true (c.if-covers.ensures.1 k)) in
    rw map-append (unfound_more (is_chosen c.args.class (option_copied c.args.head)) c.args.resource.now
    (map deref c.loop-profile.yielded) c.loop-profile.rows c.loop-profile.invariant c.in-Some.profile.now
    (sym c.if-is_chosen.ensures) uncovered)

pub returns-clause-first : goal.returns-clause-first
returns-clause-first c =
    let seen : List Profile = map deref c.loop-profile.yielded in
    let start : c.into_iter-profile-iterator.result ≡ c.args.profiles.now = search rules in
    let so_far = rest_so_far deref c.loop-profile.yielded _ _ c.loop-profile.yielded_by in
    let all_is : c.args.profiles.now ≡ seen = sym start ∙ so_far ∙ ap (λ (t : List Profile). seen ++ t) c.in-None.ensures.steps.0 ∙ append-nil seen in
    rw all_is (sym (none_found c.args.resource.now _ c.loop-profile.invariant.none))

pub returns-clause-rows : goal.returns-clause-rows
returns-clause-rows c =
    let seen : List Profile = map deref c.loop-profile.yielded in
    let start : c.into_iter-profile-iterator.result ≡ c.args.profiles.now = search rules in
    let so_far = rest_so_far deref c.loop-profile.yielded _ _ c.loop-profile.yielded_by in
    let all_is : c.args.profiles.now ≡ seen = sym start ∙ so_far ∙ ap (λ (t : List Profile). seen ++ t) c.in-None.ensures.steps.0 ∙ append-nil seen in
    rw all_is c.loop-profile.invariant.count

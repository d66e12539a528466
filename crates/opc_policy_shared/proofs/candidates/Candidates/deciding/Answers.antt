use Rattle.std.proofs.Common.{◌≡◌, ◌<◌, All, length, get_or, refl, sym, arith}
use Rattle.std.proofs.lemmas.Bool.{false≢true}
use Rattle.std.specs.List.Sorted.{IsSortedBy}
use Rattle.opc_names.specs.Names.{IsPattern}
use Rattle.opc_policy.proofs.FirstCovering.{covered_text, none_found, uncovered_text}
use Rattle.opc_policy_members.specs.Profiles.{is_before}
use Rattle.opc_policy_members.specs.declared.profile.Profile.{Profile}
use Rattle.opc_policy_shared.proofs.InOrder.{found_decides, one_more, passed}
use Rattle.opc_policy_shared.proofs.candidates.Candidates.deciding.Goals as goal

pub loop-place-preserved-in-Some : goal.loop-place-preserved-in-Some
loop-place-preserved-in-Some c =
    let p : Profile = c.index-candidate.result.now in
    let order : IsSortedBy is_before c.args.self.now = rw (← c.self.view_is) c.self.invariant.order in
    let patterns : All (λ (q : Profile). IsPattern q.pattern) c.args.self.now = rw (← c.self.view_is) c.self.invariant.patterns in
    let is : get_or c.args.self.now c.loop-place.place p ≡ p = rw (← c.self.view_is) (sym c.index-candidate.ensures) in
    let there : c.loop-place.place < length c.args.self.now = omega arith in
    let within = c.place_from-place.ensures.within in (
      within.1,
      passed c.args.resource.now c.args.self.now patterns order c.loop-place.place c.place_from-place.result p c.in-Some.past there
          within.1 is c.loop-place.invariant.1
          (rw (c.as_slice.ensures.value, c.with_period-name.ensures, c.key.ensures) at c.in-Some.ensures.itself)
          (rw (c.as_slice.ensures.value, c.with_period-name.ensures, c.key.ensures) at c.in-Some.ensures.later) c.place_from-place.ensures.below,
    )

pub returns-then-covers : goal.returns-then-covers
returns-then-covers c =
    let p : Profile = c.index-candidate.result.now in
    let order : IsSortedBy is_before c.args.self.now = rw (← c.self.view_is) c.self.invariant.order in
    let is : get_or c.args.self.now c.loop-place.place p ≡ p = rw (← c.self.view_is) (sym c.index-candidate.ensures) in
    let there : c.loop-place.place < length c.args.self.now = omega arith in (
      there,
      found_decides c.args.resource.now c.args.self.now c.loop-place.place p order c.loop-place.invariant.1 there is
          (covered_text p c.args.resource.now (c.if-covers.ensures.0 refl)),
    )

pub loop-place-preserved : goal.loop-place-preserved
loop-place-preserved c =
    let p : Profile = c.index-candidate.result.now in
    let is : get_or c.args.self.now c.loop-place.place p ≡ p = rw (← c.self.view_is) (sym c.index-candidate.ensures) in
    let there : c.loop-place.place < length c.args.self.now = omega arith in (
      omega arith,
      one_more c.args.resource.now c.args.self.now c.loop-place.place p there is c.loop-place.invariant.1
          (uncovered_text p c.args.resource.now (λ k. false≢true (c.if-covers.ensures.1 k))),
    )

pub returns : goal.returns
returns c = none_found c.args.resource.now c.args.self.now (λ k d less. c.loop-place.invariant.1 k d (omega (arith, less)))

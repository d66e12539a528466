use Rattle.std.proofs.Common.{◌≡◌, ℕ, ◌<◌, ◌+◌, ◌-◌, ◌/◌, length, get_or, sym, ◌∙◌, arith}
use Rattle.std.specs.List.Sorted.{IsSortedBy}
use Rattle.opc_policy_members.specs.Profiles.{is_before}
use Rattle.opc_policy_members.specs.declared.profile.Profile.{Profile}
use Rattle.opc_policy_shared.proofs.InOrder.{below_all}
use Rattle.opc_policy_shared.proofs.candidates.Candidates.place_from.Goals as goal

pub places-preserved-then-is_below : goal.places-preserved-then-is_below
places-preserved-then-is_below c =
    let middle : ℕ = c.places.low + (c.places.high - c.places.low) / 2 in
    let p : Profile = c.index.result.now in
    let order : IsSortedBy is_before c.args.self.now = rw (← c.self.view_is) c.self.invariant.order in
    let is : get_or c.args.self.now middle p ≡ p = rw (← c.self.view_is) (sym c.index.ensures) in
    let there : middle < length c.args.self.now = omega arith in (
      omega arith,
      omega arith,
      omega arith,
      λ k d from less. below_all c.args.self.now middle p c.args.key.now order there is
          (sym c.is_below.ensures ∙ c.if-is_below.true) k d (omega (arith, less)),
    )

use Rattle.std.proofs.Common.{◌≡◌, ℕ, ◌<◌, ◌≤◌, ◌-◌, length, get_or, true}
use Rattle.std.specs.Cmp.Lexicographic.{slice_cmp}
use Rattle.std.specs.Ordering.{nat_cmp, is_lt}
use Rattle.opc_names.specs.Order.{sort_key}
use Rattle.opc_policy_members.specs.declared.profile.Profile.{Profile}
use Rattle.opc_policy_shared.proofs.candidates.Candidates.place_from.Given as goal

abbrev pub invariant-places : goal.invariant-places
invariant-places l =
    (l.from ≤ l.low) × (l.low ≤ l.high) × (l.high ≤ length l.self)
    × ((k : ℕ) (d : Profile) → l.from ≤ k → k < l.low
    → is_lt (slice_cmp nat_cmp (sort_key (get_or l.self k d).pattern) l.key) ≡ true)

abbrev pub decreases-places : goal.decreases-places
decreases-places l = l.high - l.low

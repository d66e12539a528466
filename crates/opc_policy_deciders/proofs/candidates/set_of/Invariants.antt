use Rattle.std.proofs.Common.{◌≡◌, List, take, ℕ}
use Rattle.std.specs.BTreeSet.{contains}
use Rattle.std.specs.Cmp.Lexicographic.{slice_cmp}
use Rattle.std.specs.Ordering.{nat_cmp}
use Rattle.opc_policy_deciders.specs.Pairs.{is_among}
use Rattle.opc_policy_deciders.proofs.candidates.set_of.Given as goal

abbrev pub invariant-loop-pattern : goal.invariant-loop-pattern
invariant-loop-pattern l = (p : List ℕ) → contains (slice_cmp nat_cmp) l.set p ≡ is_among (take l.pattern-index l.patterns) p

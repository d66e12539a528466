use Rattle.std.proofs.Common.{◌++◌, ◌-◌, length, take}
use Rattle.opc_policy_deciders.specs.Pairs.{AreNearText}
use Rattle.opc_policy_deciders.proofs.pairs.add_near.Given as goal

abbrev pub invariant-loop-place : goal.invariant-loop-place
invariant-loop-place l = AreNearText l.text l.list.items (l.fn.list.items ++ take l.place l.patterns)

abbrev pub decreases-loop-place : goal.decreases-loop-place
decreases-loop-place l = length l.patterns - l.place

use Rattle.std.proofs.Common.{◌≡◌, map, take}
use Rattle.opc_policy_deciders.specs.Pairs.{is_among}
use Rattle.opc_policy_deciders.proofs.candidates.all_among.Given as goal

abbrev pub invariant-loop-pattern : goal.invariant-loop-pattern
invariant-loop-pattern l = l.list.items ≡ map (is_among l.others) (take l.pattern-index l.patterns)

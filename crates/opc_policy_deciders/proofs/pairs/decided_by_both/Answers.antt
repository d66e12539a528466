use Rattle.std.proofs.Common.{Global, List, Option, Vec, ℕ}
use Rattle.opc_names.specs.Names.{IsPattern}
use Rattle.opc_policy_deciders.proofs.BothSides.{all_own, decided_by_both, valid_front}
use Rattle.opc_policy_deciders.proofs.Gathering.{in_order_before}
use Rattle.opc_policy_deciders.proofs.pairs.decided_by_both.Goals as goal

pub joined_once-requires-clause-one : goal.joined_once-requires-clause-one
joined_once-requires-clause-one c =
    all_own IsPattern c.args.patterns.now c.split_at.result.1.now c.first_of.result.now c.args.at c.requires.one.valid c.split_at.ensures.back
    c.first_of.ensures

pub joined_once-requires-clause-other : goal.joined_once-requires-clause-other
joined_once-requires-clause-other c =
    all_own IsPattern c.args.others.now c.split_at-2.result.1.now c.first_of-2.result.now c.args.other_at c.requires.other.valid
    c.split_at-2.ensures.back c.first_of-2.ensures

pub between_lists-requires-clause-include : goal.between_lists-requires-clause-include
between_lists-requires-clause-include c = rw c.as_slice.ensures.value c.in_ok-include.ensures.valid

pub between_lists-requires-clause-one : goal.between_lists-requires-clause-one
between_lists-requires-clause-one c = rw c.split_at.ensures.front (valid_front c.args.patterns.now c.args.at c.requires.one.valid)

pub between_lists-requires-clause-other : goal.between_lists-requires-clause-other
between_lists-requires-clause-other c = rw c.split_at-2.ensures.front (valid_front c.args.others.now c.args.other_at c.requires.other.valid)

pub between_lists-requires-clause-in_order : goal.between_lists-requires-clause-in_order
between_lists-requires-clause-in_order c =
    in_order_before c.args.one.now c.args.patterns.now c.split_at.result.0.now c.args.at c.requires.one c.split_at.ensures.front

pub between_lists-requires-clause-other_in_order : goal.between_lists-requires-clause-other_in_order
between_lists-requires-clause-other_in_order c =
    in_order_before c.args.other.now c.args.others.now c.split_at-2.result.0.now c.args.other_at c.requires.other c.split_at-2.ensures.front

pub returns : goal.returns
returns c =
    decided_by_both (λ (v : Vec (Option (List ℕ)) Global). v.items) c.args.one.now c.args.other.now c.args.patterns.now c.args.others.now
    c.split_at.result.0.now c.split_at.result.1.now c.first_of.result.now c.split_at-2.result.0.now c.split_at-2.result.1.now
    c.first_of-2.result.now c.as_slice.result.now c.args.at c.args.other_at c.between_lists.result c.requires.one c.requires.other
    c.split_at.ensures.front c.split_at.ensures.back c.first_of.ensures c.split_at-2.ensures.front c.split_at-2.ensures.back
    c.first_of-2.ensures (rw c.as_slice.ensures.value c.in_ok-include.ensures.alike) c.between_lists.ensures

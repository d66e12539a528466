use Rattle.std.proofs.Common.{ℕ, Global, List, Option, Vec}
use Rattle.opc_names.specs.Names.{IsPattern}
use Rattle.opc_policy_deciders.proofs.Finding.{all_before, come_before, decided_by_none, decided_by_one, first_left}
use Rattle.opc_policy_deciders.proofs.decided.decided_at.Goals as goal

pub decided_by-requires-clause-pattern : goal.decided_by-requires-clause-pattern
decided_by-requires-clause-pattern c =
    first_left IsPattern c.args.patterns.now c.split_at.result.1.now c.args.at c.pattern-item.result c.requires.all.valid
    c.split_at.ensures.back c.in-len1-up.len_at_least c.pattern-item.is

pub decided_by-requires-clause-before : goal.decided_by-requires-clause-before
decided_by-requires-clause-before c =
    rw c.split_at.ensures.front (all_before IsPattern c.args.patterns.now c.args.at c.requires.all.valid)

pub decided_by-requires-clause-order : goal.decided_by-requires-clause-order
decided_by-requires-clause-order c =
    come_before c.args.policy.now c.args.patterns.now c.split_at.result.0.now c.split_at.result.1.now c.args.at c.pattern-item.result c.requires.all
    c.split_at.ensures.front c.split_at.ensures.back c.in-len1-up.len_at_least c.pattern-item.is

pub returns-in_default : goal.returns-in_default
returns-in_default c =
    decided_by_none (λ (v : Vec (Option (List ℕ)) Global). v.items) c.args.policy.now c.args.patterns.now c.split_at.result.0.now c.split_at.result.1.now
    c.args.at c.between_all.result c.requires.all c.split_at.ensures.front c.split_at.ensures.back c.in_default.len_below
    c.between_all.ensures

pub returns : goal.returns
returns c =
    decided_by_one (λ (v : Vec (Option (List ℕ)) Global). v.items) c.args.policy.now c.args.patterns.now c.split_at.result.0.now c.split_at.result.1.now
    c.args.at c.decided_by.result c.requires.all c.split_at.ensures.front c.split_at.ensures.back c.pattern-item.result
    c.in-len1-up.len_at_least c.pattern-item.is c.decided_by.ensures

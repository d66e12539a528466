use Rattle.std.proofs.Common.{Global, List, Option, Vec, ℕ}
use Rattle.opc_policy_deciders.proofs.Covering.{nearer}
use Rattle.opc_policy_deciders.proofs.Finding.{near_is_enough}
use Rattle.opc_policy_deciders.proofs.decided.decided_by.Goals as goal

pub returns : goal.returns
returns c =
    near_is_enough (λ (v : Vec (Option (List ℕ)) Global). v.items) c.args.pattern.now c.as_slice.result.now c.args.before.now c.between_all.result
    (rw c.as_slice.ensures.value (nearer c.args.pattern.now c.in_ok-exclude.exclude.items c.near.result.now c.args.before.now c.in_ok-exclude.ensures
    c.near.ensures)) c.between_all.ensures

use Rattle.std.proofs.lemmas.Result.{IfOk-weaker}
use Rattle.opc_check_notes.proofs.Before.{has_patterns}
use Rattle.opc_check_notes.proofs.preceding.patterns_by_key.Goals as goal

pub returns : goal.returns
returns c =
    IfOk-weaker c.sorted.result _ _
    (λ kept same. has_patterns c.args.rows.now _ kept c.in_ok-all_keyed.ensures.keyed c.in_ok-all_keyed.ensures.valid same)
    c.sorted.ensures.pairs

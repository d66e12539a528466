use Rattle.std.proofs.lemmas.Result.{IfOk-weaker}
use Rattle.opc_check_notes.proofs.Placing.{has_placed}
use Rattle.opc_check_notes.proofs.entries.group_entries.Goals as goal

pub returns : goal.returns
returns c = IfOk-weaker c.sorted.result _ _ (λ kept same. has_placed c.args.rows.now _ kept c.in_ok-all_placed.ensures same) c.sorted.ensures.keys

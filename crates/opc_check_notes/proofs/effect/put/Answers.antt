use Rattle.opc_check_notes.specs.Effect.{key_of}
use Rattle.opc_check_notes.proofs.Keys.{put_so}
use Rattle.opc_check_notes.proofs.effect.put.Goals as goal

pub returns : goal.returns
returns c = λ q. put_so (key_of c.args.row.now) c.key_of.result q c.args.kept _ _ c.key_of.ensures (c.in_ok-insert.ensures.updates.0 q)

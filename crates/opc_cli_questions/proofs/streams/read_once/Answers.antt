use Rattle.opc_cli_questions.proofs.Taking.{after_kept, kept_again, kept_at_first}
use Rattle.opc_cli_questions.proofs.streams.read_once.Goals as goal

pub loop-init : goal.loop-init
loop-init g c = kept_at_first _

pub loop-preserved : goal.loop-preserved
loop-preserved g c = kept_again _ _ _ c.loop.invariant c.in-Err.ensures.bytes

pub returns-in_default-clause-bytes : goal.returns-in_default-clause-bytes
returns-in_default-clause-bytes g c = kept_again _ _ _ c.loop.invariant c.in-Err.ensures.bytes

pub returns-clause-bytes : goal.returns-clause-bytes
returns-clause-bytes g c = after_kept _ _ _ c.read-2.result _ c.loop.invariant c.read-2.ensures.bytes

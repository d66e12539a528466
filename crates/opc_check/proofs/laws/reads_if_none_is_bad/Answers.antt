use Rattle.opc_check.proofs.Agreeing.{reads}
use Rattle.opc_check.proofs.laws.reads_if_none_is_bad.Goals as goal

pub returns : goal.returns
returns c = reads

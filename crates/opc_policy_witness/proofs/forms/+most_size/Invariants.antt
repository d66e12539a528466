use Rattle.std.proofs.Common.{length}
use Rattle.opc_policy_witness.proofs.forms.+most_size.Given as goal

abbrev pub decreases-most_size : goal.decreases-most_size
decreases-most_size l = length l.form.now

use Rattle.std.proofs.Common.{length}
use Rattle.opc_check_reach.proofs.forms.+decides_one.Given as goal

abbrev pub decreases-decides_one : goal.decreases-decides_one
decreases-decides_one l = length l.forms.now

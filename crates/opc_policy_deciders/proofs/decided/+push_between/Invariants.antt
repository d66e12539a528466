use Rattle.std.proofs.Common.{length}
use Rattle.opc_policy_deciders.proofs.decided.+push_between.Given as goal

abbrev pub decreases-push_between : goal.decreases-push_between
decreases-push_between l = length l.forms.now

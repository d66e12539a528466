use Rattle.std.proofs.Common.{length}
use Rattle.opc_policy_witness.proofs.forms.+push_words.Given as goal

abbrev pub decreases-push_words : goal.decreases-push_words
decreases-push_words l = length l.form.now

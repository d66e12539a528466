use Rattle.std.proofs.Common.{length}
use Rattle.opc_answers_may.proofs.values.+put_examples.Given as goal

abbrev pub decreases-put_examples : goal.decreases-put_examples
decreases-put_examples l = length l.forms.now

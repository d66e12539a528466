use Rattle.std.proofs.Common.{length}
use Rattle.opc_cli_questions.proofs.noted.+has_code.Given as goal

abbrev pub decreases-has_code : goal.decreases-has_code
decreases-has_code l = length l.text.now

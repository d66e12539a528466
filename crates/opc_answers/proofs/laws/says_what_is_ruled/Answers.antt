use Rattle.opc_answers.proofs.Said.{at_a_console, elsewhere, where_named, where_raised}
use Rattle.opc_answers.proofs.laws.says_what_is_ruled.Goals as goal

pub returns : goal.returns
returns c = record {
  at_a_console = at_a_console;
  raised = where_raised;
  elsewhere = elsewhere;
  named = where_named;
}

use Rattle.std.proofs.Common.{rules}
use Rattle.opc_embedded.proofs.asking.reply.Goals as goal

pub returns-clause-asked : goal.returns-clause-asked
returns-clause-asked c = record {
  before = c.new-output.result;
  quiet = c.new-errors.result;
  empty_before = search rules;
  empty_quiet = search rules;
  fine_before = c.new-output.ensures.fine;
  fine_quiet = c.new-errors.ensures.fine;
  status = c.answered-status.result;
  replied = c.answered-status.ensures.reply;
  status_is = c.whole_status.ensures;
}

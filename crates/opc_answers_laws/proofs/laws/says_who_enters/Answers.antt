use Rattle.opc_answers_laws.proofs.Entering.{enters_after, enters_without, no_logon_if_refused, no_logon_without, shown_the_line, shown_without}
use Rattle.opc_answers_laws.proofs.laws.says_who_enters.Goals as goal

pub returns : goal.returns
returns c = record {
  after = enters_after;
  without = enters_without;
  refused = no_logon_if_refused;
  off = no_logon_without;
  line = shown_the_line;
  own_line = shown_without;
}

use Rattle.opc_answers.proofs.Admitted.{admits, no_digest, own_needs_none, who_cannot, who_enters, who_may}
use Rattle.opc_answers.proofs.laws.says_who_may_there.Goals as goal

pub returns : goal.returns
returns c = record {
  may = who_may;
  enters = who_enters;
  off = who_cannot;
  admitted = admits;
  digest = no_digest;
  own = own_needs_none;
}

use Rattle.opc_answers_may.proofs.AsWho.{hides_as_who, says_as_who, says_by_authority, says_everywhere}
use Rattle.opc_answers_may.proofs.Placing.{decides_at_its_place}
use Rattle.opc_answers_may.proofs.Standing.{raised_as_who}
use Rattle.opc_answers_may.proofs.laws.says_as_who.Goals as goal

pub returns : goal.returns
returns c = record {
  place = decides_at_its_place;
  profile = says_as_who;
  everywhere = says_everywhere;
  authority = says_by_authority;
  raised = raised_as_who;
  hidden = hides_as_who;
}

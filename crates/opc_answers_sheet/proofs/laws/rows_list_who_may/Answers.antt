use Rattle.opc_answers_sheet.proofs.Alike.{says_the_same}
use Rattle.opc_answers_sheet.proofs.AsWho.{lists_as_who, lists_as_who_there, lists_logons_as_who}
use Rattle.opc_answers_sheet.proofs.Standing.{lists_who_may}
use Rattle.opc_answers_sheet.proofs.laws.rows_list_who_may.Goals as goal

pub returns : goal.returns
returns c = record {
  listed = lists_who_may;
  everywhere = lists_as_who;
  there = lists_as_who_there;
  logons = lists_logons_as_who;
  forms = says_the_same;
}

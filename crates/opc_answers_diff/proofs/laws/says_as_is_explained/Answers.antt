use Rattle.opc_answers_diff.proofs.AsExplained.{members_are_stored, says_as_explained}
use Rattle.opc_answers_diff.proofs.laws.says_as_is_explained.Goals as goal

pub returns : goal.returns
returns c = record { explained = says_as_explained; stored = members_are_stored }

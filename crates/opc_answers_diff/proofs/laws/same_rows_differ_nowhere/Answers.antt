use Rattle.opc_answers_diff.proofs.Same.{same_prints_nothing}
use Rattle.opc_answers_diff.proofs.SameRows.{same_rows_differ_nowhere}
use Rattle.opc_answers_diff.proofs.laws.same_rows_differ_nowhere.Goals as goal

pub returns : goal.returns
returns c = record { rows = same_rows_differ_nowhere; sections = same_prints_nothing }

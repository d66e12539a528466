use Rattle.opc_answers_laws.proofs.Shown.{are_in_order, are_shown, are_stored}
use Rattle.opc_answers_laws.proofs.laws.shown_rows.Goals as goal

pub returns : goal.returns
returns c = record { stored = are_stored; shown = are_shown; order = are_in_order }

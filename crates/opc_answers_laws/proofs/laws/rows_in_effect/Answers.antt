use Rattle.opc_answers_laws.proofs.InEffect.{in_effect_stored, stored_in_effect}
use Rattle.opc_answers_laws.proofs.laws.rows_in_effect.Goals as goal

pub returns : goal.returns
returns c = record { stored = in_effect_stored; effect = stored_in_effect }

use Rattle.opc_answers_may.proofs.Standing.{stands_by_its_group, stands_by_its_kind}
use Rattle.opc_answers_may.proofs.laws.each_form_stands_once.Goals as goal

pub returns : goal.returns
returns c = record { kind = stands_by_its_kind; group = stands_by_its_group }

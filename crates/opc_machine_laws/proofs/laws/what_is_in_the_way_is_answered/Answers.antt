use Rattle.opc_machine_laws.proofs.Refusing.{administration_faults, changed_batches, import_faults}
use Rattle.opc_machine_laws.proofs.laws.what_is_in_the_way_is_answered.Goals as goal

pub returns : goal.returns
returns c = record { administration = administration_faults; rows = import_faults; batch = changed_batches }

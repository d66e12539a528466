use Rattle.opc_machine_laws.proofs.Foreseen.{foresee, list_what_covers, read_so}
use Rattle.opc_machine_laws.proofs.meanings.explanations_foresee.Goals as goal

pub returns : goal.returns
returns c = record { foreseen = foresee; listed = list_what_covers; example = read_so }

use Rattle.opc_machine_laws.proofs.NewStates.{new_states, numbers_suffice}
use Rattle.opc_machine_laws.proofs.meanings.new_states_are_empty.Goals as goal

pub returns : goal.returns
returns c = record { nothing = new_states; room = numbers_suffice }

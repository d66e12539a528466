use Rattle.opc_machine_laws.proofs.Refusing.{missing_console, offline_console}
use Rattle.opc_machine_laws.proofs.laws.missing_consoles_are_answered.Goals as goal

pub returns : goal.returns
returns c = record { missing = missing_console; offline = offline_console }

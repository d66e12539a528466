use Rattle.opc_reader.proofs.OneWay.{commands, faults, slices}
use Rattle.opc_reader.proofs.line.read_command.Goals as goal

pub returns-clause-command : goal.returns-clause-command
returns-clause-command c = commands _ _ c.read.ensures

pub returns-clause-fault : goal.returns-clause-fault
returns-clause-fault c = faults _ _ c.read.ensures

pub returns-clause-slices : goal.returns-clause-slices
returns-clause-slices c = slices _ _ c.read.ensures

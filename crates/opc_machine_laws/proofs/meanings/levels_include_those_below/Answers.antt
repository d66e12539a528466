use Rattle.opc_machine_laws.proofs.Groups.{include_those_below}
use Rattle.opc_machine_laws.proofs.meanings.levels_include_those_below.Goals as goal

pub returns : goal.returns
returns c = include_those_below

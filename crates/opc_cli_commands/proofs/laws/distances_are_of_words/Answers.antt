use Rattle.opc_cli_commands.proofs.Distances.{distances_are_of_words}
use Rattle.opc_cli_commands.proofs.laws.distances_are_of_words.Goals as goal

pub returns : goal.returns
returns c = distances_are_of_words

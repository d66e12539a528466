use Rattle.opc_cli_failures.proofs.Escaping.{printable_stay}
use Rattle.opc_cli_failures.proofs.laws.printable_texts_stay.Goals as goal

pub returns : goal.returns
returns c = printable_stay

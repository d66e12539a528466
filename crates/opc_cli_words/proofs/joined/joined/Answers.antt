use Rattle.opc_cli_words.proofs.Joining.{none_left}
use Rattle.opc_cli_words.proofs.joined.joined.Goals as goal

pub returns : goal.returns
returns c = none_left c.loop-word.all.items c.loop-word.left.now _ c.in_default.ensures.cases c.loop-word.invariant

use Rattle.opc_cli_words.proofs.Letters.{stripped}
use Rattle.opc_cli_words.proofs.span.before_last.Goals as goal

pub returns : goal.returns
returns c = stripped c.args.letter.now c.args.text.now c.strip_suffix.result c.requires c.strip_suffix.ensures.cases

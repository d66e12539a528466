use Rattle.std.proofs.Common.{lit<}
use Rattle.opc_names.proofs.Resources.{words_valid}
use Rattle.opc_names.proofs.resource.Resource.of_words.Goals as goal

pub of-requires : goal.of-requires
of-requires c = (lit< tt, words_valid _ c.requires)

use Rattle.std.proofs.Common.{sym, ◌∙◌}
use Rattle.opc_names.proofs.Faults.{good_count}
use Rattle.opc_names.proofs.rule.Alphabet.count.Goals as goal

pub returns-in-None : goal.returns-in-None
returns-in-None c = sym (good_count c.args.self c.args.text.now (sym c.requires ∙ c.in-None.is))

use Rattle.std.proofs.Common.{lit<, rules}
use Rattle.std.proofs.lemmas.Iterator.Search.{any_from_yields_List}
use Rattle.std.proofs.lemmas.Iterator.Splits.{YieldsList-from_str_split}
use Rattle.opc_account.specs.Codes.{is_like}
use Rattle.opc_account.proofs.codes.is_among.Goals as goal

pub returns : goal.returns
returns c =
    any_from_yields_List (λ wanted. is_like wanted c.args.code.now) _ _ _ c.any.ensures.ran
    (YieldsList-from_str_split 44 c.args.text.now (lit< tt) c.split.ensures.text c.split.ensures.has_more c.split.ensures.pattern)
    (λ x b q k. search rules)

use Rattle.std.proofs.Common.{◌==◌, length, rules, tests}
use Rattle.std.specs.Prelude.{not}
use Rattle.std.proofs.lemmas.Iterator.Search.{find_from_yields_List}
use Rattle.std.proofs.lemmas.Iterator.Splits.{YieldsList-from_lines}
use Rattle.opc_check.proofs.unread.first_line.Goals as goal

pub returns : goal.returns
returns c = find_from_yields_List (λ line. not (length line == 0)) _ _ _ c.find.ensures.ran
    (YieldsList-from_lines c.args.text.now c.lines.ensures.rest) (λ x b q k. search (rules, tests))

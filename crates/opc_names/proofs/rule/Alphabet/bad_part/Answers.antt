use Rattle.std.proofs.Common.{rules, sym, arith}
use Rattle.opc_names.proofs.Faults.{good_count}
use Rattle.opc_names.proofs.Resources.{plain_parts}
use Rattle.opc_names.proofs.rule.Alphabet.bad_part.Goals as goal

pub returns-then-is_plain : goal.returns-then-is_plain
returns-then-is_plain c =
    let same = good_count c.args.self c.args.text.now c.requires.good in
    sym (plain_parts c.args.self c.args.text.now (search (rules)) (grind (arith, same, c.requires.some)) c.requires.good)

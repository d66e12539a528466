use Rattle.std.proofs.Common.{◌≡◌, ◌+◌, ◌≤◌, length}
use Rattle.std.specs.Option.{option_copied}
use Rattle.opc_names.specs.Names.{bad_part, bad_qualifier}
use Rattle.opc_names.specs.Walk.{qualifiers_left, left_len}
use Rattle.opc_names.proofs.rule.Alphabet.bad_qualifier.Given as goal

abbrev pub invariant-loop-left : goal.invariant-loop-left
invariant-loop-left l = record {
  within : l.at + left_len (option_copied l.left) ≤ length l.text + 1;
  same : bad_part l.self l.at (qualifiers_left (option_copied l.left)) ≡ bad_qualifier l.self l.text;
}

abbrev pub decreases-loop-left : goal.decreases-loop-left
decreases-loop-left l = left_len (option_copied l.left)

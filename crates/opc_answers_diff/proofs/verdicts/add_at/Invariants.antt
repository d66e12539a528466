use Rattle.std.proofs.Common.{◌≡◌, ◌++◌, take}
use Rattle.std.specs.List.{flat_map}
use Rattle.std.specs.Option.{option_copied}
use Rattle.opc_answers_diff.specs.Verdicts.{at_console}
use Rattle.opc_answers_diff.proofs.verdicts.add_at.Given as goal

abbrev pub invariant-loop-console : goal.invariant-loop-console
invariant-loop-console l = l.list.items ≡ l.fn.list.items
    ++ flat_map (at_console l.asked (option_copied l.before) (option_copied l.after) l.members) (take l.console-index l.consoles)

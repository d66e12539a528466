use Rattle.std.proofs.Common.{◌≡◌, take}
use Rattle.std.specs.Option.{option_copied}
use Rattle.opc_answers.specs.Who.{named}
use Rattle.opc_answers.proofs.raised.named.Given as goal

abbrev pub invariant-loop-console : goal.invariant-loop-console
invariant-loop-console l = l.list.items ≡ named (option_copied l.decided) (option_copied l.line) (take l.console-index l.consoles)

use Rattle.std.proofs.Common.{◌≡◌, map, take}
use Rattle.std.specs.Option.{option_copied}
use Rattle.opc_answers_may.specs.Commands.{kind_line}
use Rattle.opc_answers_may.proofs.commands.lines_of.Given as goal

abbrev pub invariant-loop-kind : goal.invariant-loop-kind
invariant-loop-kind l = l.lines ≡ map (kind_line l.at l.no_logon (option_copied l.decided) l.member) (take l.kind-index l.kinds)

use Rattle.std.proofs.Common.{◌≡◌, take}
use Rattle.std.specs.Io.KnownBytes.{Appends}
use Rattle.std.specs.List.{flat_map}
use Rattle.opc_answers.specs.Who.{raised_there}
use Rattle.opc_answers.specs.Texts.{share_of}
use Rattle.opc_cli_questions.specs.WhoPrinted.{users_shown}
use Rattle.opc_cli_questions.proofs.who_printing.print_raised.Given as goal

abbrev pub invariant-loop-console : goal.invariant-loop-console
invariant-loop-console g l =
    Appends (g.W.Write.contents l.fn.output) (g.W.Write.contents l.output)
    (users_shown l.form l.allowed (flat_map (raised_there l.who) (take l.console-index l.console-items)))
    × (l.share ≡ share_of (flat_map (raised_there l.who) (take l.console-index l.console-items)))

use Rattle.std.proofs.Common.{take}
use Rattle.std.specs.Fmt.{HasWritten, IsPlainFormatter}
use Rattle.std.specs.List.{flat_map}
use Rattle.opc_policy.specs.Explained.{covers_line}
use Rattle.opc_policy.proofs.explained.ExplainedDisplay.fmt.Given as goal

abbrev pub invariant-loop-pattern : goal.invariant-loop-pattern
invariant-loop-pattern g l =
    IsPlainFormatter l.initial.f → HasWritten g.W.Write.write_str_gives l.initial.f (flat_map covers_line (take l.pattern-index l.pattern-items)) l.f

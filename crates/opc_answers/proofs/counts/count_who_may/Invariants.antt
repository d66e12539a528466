use Rattle.std.proofs.Common.{◌≡◌, count_by, take}
use Rattle.opc_answers.specs.Texts.{may}
use Rattle.opc_answers.proofs.counts.count_who_may.Given as goal

abbrev pub invariant-loop-line : goal.invariant-loop-line
invariant-loop-line l = l.count ≡ count_by may (take l.line-index l.lines)

use Rattle.std.proofs.Common.{◌≡◌, count_by, take}
use Rattle.opc_answers.specs.Texts.{is_shown_nothing}
use Rattle.opc_answers.proofs.counts.count_hidden.Given as goal

abbrev pub invariant-loop-line : goal.invariant-loop-line
invariant-loop-line l = l.count ≡ count_by is_shown_nothing (take l.line-index l.lines)

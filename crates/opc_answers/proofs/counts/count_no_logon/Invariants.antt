use Rattle.std.proofs.Common.{◌≡◌, count_by, take}
use Rattle.opc_answers.specs.Texts.{cannot_log_on}
use Rattle.opc_answers.proofs.counts.count_no_logon.Given as goal

abbrev pub invariant-loop-line : goal.invariant-loop-line
invariant-loop-line l = l.count ≡ count_by cannot_log_on (take l.line-index l.lines)

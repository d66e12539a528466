use Rattle.std.proofs.Common.{◌≡◌, ◌≤◌, ◌+◌}
use Rattle.opc_check.specs.Judged.{judged_from}
use Rattle.opc_check.proofs.Following.{Follows}
use Rattle.opc_check.proofs.judging.judge_each.Given as goal

abbrev pub invariant-loop-number : goal.invariant-loop-number
invariant-loop-number l = record {
  follows : Follows l.fn.each.width (judged_from l.fn.each.width 1 l.fn.each.records)
      (judged_from l.fn.each.width l.number l.each.records) l.reading;
  count : l.reading.judged + 1 ≡ l.number;
  bad : l.reading.bad ≤ l.reading.judged;
  read : l.each.width ≡ l.fn.each.width;
  told : l.width ≡ l.fn.each.width;
  last : l.number ≤ 10002;
}

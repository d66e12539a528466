use Rattle.std.proofs.Common.{◌≡◌, ◌≤◌, ◌∙◌, refl, ap, arith}
use Rattle.opc_check.specs.Problems.{problems_of}
use Rattle.opc_check.proofs.Following.{begins, ends_here, ends_past, turn}
use Rattle.opc_check.proofs.judging.judge_each.Goals as goal

pub loop-number-init : goal.loop-number-init
loop-number-init c = record {
  follows = begins _ _ _ c.new-reading.ensures.rows c.new-reading.ensures.judged c.new-reading.ensures.bad (ap problems_of c.new-reading.ensures.problems);
  count = omega (arith, c.new-reading.ensures.judged);
  bad = omega (arith, c.new-reading.ensures.judged, c.new-reading.ensures.bad);
  read = refl;
  told = refl;
  last = omega arith;
}

pub returns-then-not-branch : goal.returns-then-not-branch
returns-then-not-branch c =
    ends_here _ _ _ _ _ c.loop-number.invariant.follows (rw c.if-not-branch.true at c.in_ok-take_into.ensures.taken)

pub loop-number-preserved : goal.loop-number-preserved
loop-number-preserved c =
    let held = c.loop-number.invariant in
    let taken = rw c.if-not-branch.false at c.in_ok-take_into.ensures.taken in
    let low : c.loop-number.number ≤ 10001 = omega arith in
    record {
      follows = turn _ _ _ _ _ _ _ _ _ _ _ held.follows taken low c.row_of-meaning.ensures
          (c.in_ok-take_into.ensures.width ∙ held.read) held.told c.in_ok-add.ensures.rows c.in_ok-add.ensures.judged
          c.in_ok-add.ensures.bad c.in_ok-add.ensures.problems;
      count = omega (arith, held.count, c.in_ok-add.ensures.judged);
      bad = c.in_ok-add.ensures.fewer;
      read = c.in_ok-take_into.ensures.width ∙ held.read;
      told = held.told;
      last = omega arith;
    }

pub returns : goal.returns
returns c =
    let past : c.loop-number.number ≡ 10002 = omega (arith, c.loop-number.invariant.last) in
    ends_past _ _ _ _ _ c.loop-number.invariant.follows past

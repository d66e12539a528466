use Rattle.std.proofs.Common.{◌∙◌, ◌≤◌, sym, arith}
use Rattle.opc_import.proofs.FileLemmas.{at-end, at-fault, goes-on, good-number, header-first}
use Rattle.opc_import.specs.Kinds.{most_rows}
use Rattle.opc_import.proofs.read.read_policy.Goals as goal

pub loop-number-init : goal.loop-number-init
loop-number-init c =
    let taken = rw c.if-not-branch.false at c.in_ok-take_into.ensures in
    let same = rw c.as_bytes.ensures.value at c.extent_of.ensures.same in (
      sym same ∙ rw c.new-rows.ensures.items (header-first _ _ _ _ (sym c.of-records.ensures ∙ taken) (sym c.width_of.ensures ∙ c.in-Some.is)),
      omega arith,
    )

pub returns-then-not-branch-2-clause-ok : goal.returns-then-not-branch-2-clause-ok
returns-then-not-branch-2-clause-ok c =
    let none = rw c.if-not-branch-2.true at c.in_ok-take_into-2.ensures in
    c.loop-number.invariant.0 ∙ at-end _ _ _ _ none

pub returns-in-Err-clause-err : goal.returns-in-Err-clause-err
returns-in-Err-clause-err c _ =
    let taken = rw c.if-not-branch-2.false at c.in_ok-take_into-2.ensures in
    c.loop-number.invariant.0 ∙ at-fault _ _ _ _ _ _ _ taken (sym c.in-Err.ensures)

pub loop-number-preserved : goal.loop-number-preserved
loop-number-preserved c =
    let taken = rw c.if-not-branch-2.false at c.in_ok-take_into-2.ensures in
    let good : c.loop-number.number ≤ most_rows = good-number _ _ _ _ (sym c.in-Ok.ensures) in
    (rw c.in_ok-push-in-Ok.ensures.items (c.loop-number.invariant.0 ∙ goes-on _ _ _ _ _ _ _ taken (sym c.in-Ok.ensures)), omega (arith, good))

pub unreachable-requires : goal.unreachable-requires
unreachable-requires c = omega arith

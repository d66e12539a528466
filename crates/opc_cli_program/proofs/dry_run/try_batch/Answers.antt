use Rattle.std.proofs.Common.{ℕ, List, Ok, option_map, refl, subst}
use Rattle.std.specs.Borrow.{Bor}
use Rattle.opc_cli_program.specs.DryRuns.{IsKeptBatch}
use Rattle.opc_cli_program.proofs.dry_run.try_batch.Goals as goal

pub returns-in-Refused-clause-sure : goal.returns-in-Refused-clause-sure
returns-in-Refused-clause-sure g c = λ sure.
    c.in_ok-before.ensures.kept.sure (c.handle-answer.ensures.sure (c.not_imported.ensures.kept.sure sure))

pub returns-in-Refused-clause-tried : goal.returns-in-Refused-clause-tried
returns-in-Refused-clause-tried g c = λ sure s was.
    let kept = c.not_imported.ensures.kept in
    let met = kept.sure sure in
    let loaded = c.handle-answer.ensures.sure met in
    let step = c.handle-answer.ensures.handled met s (c.in_ok-before.ensures.kept.same loaded s was) in (
      Ok c.in_ok-before.before,
      c.in_ok-before.ensures.side loaded s was,
      (
        c.handle-answer.result,
        step.next,
        step.step,
        kept.same sure step.next step.represented,
        rw c.in-Refused.is (c.not_imported.ensures.fault, refl),
      ),
    )

pub returns-in-Some-clause-sure : goal.returns-in-Some-clause-sure
returns-in-Some-clause-sure g c = λ sure.
    c.in_ok-before.ensures.kept.sure (c.handle-answer.ensures.sure (c.show_batch.ensures.kept.sure sure))

pub returns-in-Some-clause-tried : goal.returns-in-Some-clause-tried
returns-in-Some-clause-tried g c = λ sure s was.
    let kept = c.show_batch.ensures.kept in
    let met = kept.sure sure in
    let loaded = c.handle-answer.ensures.sure met in
    let step = c.handle-answer.ensures.handled met s (c.in_ok-before.ensures.kept.same loaded s was) in
    let batch = option_map (λ (b : Bor (List ℕ)). b.now) c.kept_batch.result in (
      Ok c.in_ok-before.before,
      c.in_ok-before.ensures.side loaded s was,
      (
        c.handle-answer.result,
        step.next,
        step.step,
        kept.same sure step.next step.represented,
        rw c.in-Done.is (
          batch,
          subst (λ l. IsKeptBatch l batch) c.as_slice.ensures c.kept_batch.ensures,
          rw c.in-Some.is (c.show_batch.ensures.shown sure step.next step.represented),
        ),
      ),
    )

pub returns-in-None-clause-sure : goal.returns-in-None-clause-sure
returns-in-None-clause-sure g c = λ sure. c.in_ok-before.ensures.kept.sure (c.handle-answer.ensures.sure sure)

pub returns-in-None-clause-tried : goal.returns-in-None-clause-tried
returns-in-None-clause-tried g c = λ sure s was.
    let loaded = c.handle-answer.ensures.sure sure in
    let step = c.handle-answer.ensures.handled sure s (c.in_ok-before.ensures.kept.same loaded s was) in
    let batch = option_map (λ (b : Bor (List ℕ)). b.now) c.kept_batch.result in (
      Ok c.in_ok-before.before,
      c.in_ok-before.ensures.side loaded s was,
      (
        c.handle-answer.result,
        step.next,
        step.step,
        step.represented,
        rw c.in-Done.is (
          batch,
          subst (λ l. IsKeptBatch l batch) c.as_slice.ensures c.kept_batch.ensures,
          rw c.in-None.is (rw c.in-Done.is at c.print_answer.ensures),
        ),
      ),
    )

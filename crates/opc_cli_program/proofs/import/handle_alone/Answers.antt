use Rattle.std.proofs.Common.{refl}
use Rattle.opc_cli_program.proofs.Kept.{handled, not_special_end}
use Rattle.opc_machine.specs.Inputs.{input_of}
use Rattle.opc_cli_program.proofs.import.handle_alone.Goals as goal

pub returns-in-Refused-clause-sure : goal.returns-in-Refused-clause-sure
returns-in-Refused-clause-sure g c = λ sure. c.handle-answer.ensures.sure (c.not_imported.ensures.kept.sure sure)

pub returns-in-Refused-clause-handles : goal.returns-in-Refused-clause-handles
returns-in-Refused-clause-handles g c =
    let kept = c.not_imported.ensures.kept in
    let answer = c.handle-answer.result in
    record {
      answer = answer;
      handled = λ sure s was. handled g.T.Tables.meaning c.args.gate.now c.handle-answer.new.self c.not_imported.new.gate
          kept sure s c.args.moment (input_of c.args.request.now) answer
          (c.handle-answer.ensures.handled (kept.sure sure) s was);
      reported = rw c.in-Refused.is (c.not_imported.ensures.fault, refl);
      who = λ sure s was.
          let step = c.handle-answer.ensures.handled (kept.sure sure) s was in
          (step.next, kept.same sure step.next step.represented, c.not_imported.ensures.who sure step.next step.represented);
    }

pub returns-clause-handles : goal.returns-clause-handles
returns-clause-handles g c =
    let answer = c.handle-answer.result in
    record {
      answer = answer;
      handled = c.handle-answer.ensures.handled;
      reported = c.print_answer.ensures;
      who = λ sure s was.
          let step = c.handle-answer.ensures.handled sure s was in
          (step.next, step.represented, not_special_end _ _ c.print_answer.result (rw c.in-Done.is at c.print_answer.ensures).0);
    }

use Rattle.std.proofs.Common.{sym}
use Rattle.opc_cli_program.proofs.Unlogged.{lines_over}
use Rattle.opc_cli_program.proofs.lines.answer_over.Goals as goal

pub returns-in-None-clause-answers : goal.returns-in-None-clause-answers
returns-in-None-clause-answers g c = rw (c.in-None.is, c.into_tables-in-None.ensures, sym c.over-gate.ensures) c.answer_on-end.ensures.answers

pub returns-in-Some-clause-answers : goal.returns-in-Some-clause-answers
returns-in-Some-clause-answers g c =
    let last = c.answer_on-ran.new.gate.log in
    rw (c.in-Some.is, c.into_tables.ensures, sym c.over-gate.ensures) (
      last,
      c.answer_on-ran.result,
      lines_over g.T.Tables.meaning g.H.LogFile.Write.contents _ _ _ _ (record { gate = c.over-gate.result; log = c.in-Some.log })
          c.answer_on-ran.new.gate _ _ _ _ c.answer_on-ran.ensures.answers,
      c.logged_end-end.ensures,
    )

use Rattle.std.proofs.Common.{◌≡◌, rules}
use Rattle.opc_cli_program.proofs.lines.answer_on.Goals as goal

pub returns-clause-answers : goal.returns-clause-answers
returns-clause-answers g c =
    let same : c.answer_with.new.self.output.now ≡ c.output-1.given.0 = search rules in
    rw (← c.new-streams.ensures.input, ← c.new-streams.ensures.output, ← same) (record {
      rest = g.R.Read.remaining c.answer_with.new.self.input.now;
      ran = c.answer_with.result;
      run = c.answer_with.ensures.answered;
      failed = c.answer_with.ensures.failed;
      ends = c.ended.ensures;
    })

use Rattle.opc_cli.proofs.Answered.{by_cases}
use Rattle.opc_cli.proofs.script.run_script.Goals as goal

pub returns-clause-ran : goal.returns-clause-ran
returns-clause-ran g c = record {
  ran = c.run_script.result;
  answered = by_cases _ _ c.run_script.ensures.bad c.run_script.ensures.runs;
  failed = c.run_script.ensures.failed;
  ends = c.number_of.ensures;
}

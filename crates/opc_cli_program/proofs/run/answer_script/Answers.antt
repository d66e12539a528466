use Rattle.std.proofs.Common.{inl, inr, refl, subst, sym}
use Rattle.opc_cli_program.specs.Runs.{AreScriptBytes}
use Rattle.opc_cli_program.proofs.run.answer_script.Goals as goal

pub returns-in-Err-clause-runs : goal.returns-in-Err-clause-runs
returns-in-Err-clause-runs g c =
    inl (record { unread = inr (c.in-Err.error, (c.at.ensures.fault, c.at.ensures.cause)); same = refl; silent = refl })

pub returns-clause-runs : goal.returns-clause-runs
returns-clause-runs g c =
    inr (record {
      script = c.deref.result.now;
      are = subst (AreScriptBytes (g.R.Read.remaining c.args.input.now)) (sym c.deref.ensures.value) c.in-Ok.ensures.bytes;
      ran = c.run_bytes-ran.result;
      run = c.run_bytes-ran.ensures.runs;
      failed = c.run_bytes-ran.ensures.failed;
      ends = c.ended.ensures;
    })

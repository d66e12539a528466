use Rattle.std.proofs.Common.{inl, inr, refl}
use Rattle.opc_cli_program.proofs.ServicePolicies.{sure_before}
use Rattle.opc_cli_program.proofs.serve.serve_tables.Goals as goal

pub returns-in-Ok-clause-sure : goal.returns-in-Ok-clause-sure
returns-in-Ok-clause-sure g c = λ sure.
    sure_before g.T.Tables.meaning c.args.serve.now.policies _ _ c.started-brought.ensures.started (c.serve_from.ensures.sure sure)

pub returns-in-Ok-clause-serves : goal.returns-in-Ok-clause-serves
returns-in-Ok-clause-serves g c = record {
  log = c.log_on-log.result;
  log_is = c.log_on-log.ensures;
  started = _;
  start = c.started-brought.ensures.started;
  serves = inr (record {
    folder = c.in-Ok.folder;
    brought = λ sure s h. rw c.in-Ok.is at (c.started-brought.ensures.brought sure s h);
    serves = c.serve_from.ensures.serves;
  });
}

pub returns-in-Err-clause-sure : goal.returns-in-Err-clause-sure
returns-in-Err-clause-sure g c = sure_before g.T.Tables.meaning c.args.serve.now.policies _ _ c.started-brought.ensures.started

pub returns-in-Err-clause-serves : goal.returns-in-Err-clause-serves
returns-in-Err-clause-serves g c = record {
  log = c.log_on-log.result;
  log_is = c.log_on-log.ensures;
  started = _;
  start = c.started-brought.ensures.started;
  serves = inl (record { failed = rw c.in-Err.is at c.started-brought.ensures.status; same = refl });
}

use Rattle.std.proofs.Common.{refl}
use Rattle.opc_cli_program.proofs.decide.decide_by.Goals as goal

pub returns : goal.returns
returns g c = record {
  first = _;
  by = refl;
  at = refl;
  log_is = c.log_on-log.ensures;
  served = c.serve_decisions_on.result;
  timer = c.args.rt.now;
  last = c.serve_decisions_on.new.point;
  exchanged = c.serve_decisions_on.ensures.served;
  ends = c.ended.ensures;
}

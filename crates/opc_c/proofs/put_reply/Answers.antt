use Rattle.std.proofs.Common.{rules}
use Rattle.opc_c.proofs.put_reply.Goals as goal

pub returns : goal.returns
returns c = record {
  status_is = search rules;
  output_put = search rules;
  errors_put = search rules;
  output_length = search rules;
  errors_length = search rules;
}

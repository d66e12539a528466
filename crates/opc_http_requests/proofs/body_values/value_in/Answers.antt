use Rattle.opc_http_requests.proofs.Values.{value-none, value-read}
use Rattle.opc_http_requests.proofs.body_values.value_in.Goals as goal

pub returns-in-Ok : goal.returns-in-Ok
returns-in-Ok c =
    let read = c.in-Ok.ensures.ok in
    value-read c.args.body.now _ read.0 read.1

pub returns-in_default : goal.returns-in_default
returns-in_default c = value-none c.args.body.now (c.in-Err.ensures.err (λ m. c.in_default.not-Memory (c.classify.ensures.memory.1 m)))

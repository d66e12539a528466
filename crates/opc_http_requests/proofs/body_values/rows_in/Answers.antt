use Rattle.std.proofs.Common.{◌≡◌}
use Rattle.opc_import.specs.declared.fault.ImportFault.TheVariants as import
use Rattle.opc_http_requests.proofs.Values.{rows-fault, rows-none, rows-read}
use Rattle.opc_http_requests.proofs.body_values.rows_in.Goals as goal

pub returns-in_default : goal.returns-in_default
returns-in_default c = rows-none c.args.body.now c.in_default.ensures.cases.0

pub returns-in-Ok-read_policy : goal.returns-in-Ok-read_policy
returns-in-Ok-read_policy c =
    let text = c.in-Ok.ensures.cases in
    rows-read c.args.body.now _ text.1 (rw text.0 at c.in-Ok-read_policy.ensures.ok)

pub returns-in-Err-Row : goal.returns-in-Err-Row
returns-in-Err-Row c =
    let text = c.in-Ok.ensures.cases in
    let is : c.in-Err-Row.field-0 ≡ import.Row c.in-Err-Row.row c.in-Err-Row.why = search c.in-Err-Row.field-0-is in
    rows-fault c.args.body.now c.in-Err-Row.field-0 c.in-Err-Row.row c.in-Err-Row.why text.1 is (rw text.0 at c.in-Err-Row.ensures.err)

use Rattle.std.specs.Prelude.{Err, IfOk, Ok, Result}
use Rattle.opc_http_responses.proofs.Floats.{no_float_in_done}
use Rattle.opc_http_responses.proofs.body.done_text.Goals as goal

when-ok : {T E F : Type 0} (P : T → Type 0) (r : Result T E) → IfOk r (λ s. F → P s) → F → IfOk r P
when-ok P (Ok s) h f = h f
when-ok P (Err e) h f = tt

pub returns : goal.returns
returns c = when-ok _ c.to_string.result (rw c.in_ok-value.ensures at c.to_string.ensures.text) (no_float_in_done c.args.lines.now c.args.rule.now)

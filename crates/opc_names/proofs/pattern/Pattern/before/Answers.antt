use Rattle.opc_names.specs.Patterns.{tokens}
use Rattle.opc_names.proofs.Keys.{before_after}
use Rattle.opc_names.proofs.pattern.Pattern.before.Goals as goal

pub returns : goal.returns
returns c =
    let order = before_after (tokens c.args.self.now) (tokens c.args.other.now) in
    let walked = rw (c.as_bytes.ensures.value, c.text.ensures.text, c.as_bytes-2.ensures.value, c.text-2.ensures.text) at c.before_after.ensures in
    (λ e. order.1 (walked.0 e), λ h. walked.1 (order.0 h))

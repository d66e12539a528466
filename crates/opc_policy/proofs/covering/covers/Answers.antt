use Rattle.std.proofs.Common.{refl}
use Rattle.std.specs.Cmp.{both_ways}
use Rattle.opc_names.specs.Patterns.{covers_text}
use Rattle.opc_names.proofs.Computed.{text_computes}
use Rattle.opc_policy.proofs.covering.covers.Goals as goal

pub returns : goal.returns
returns c =
    let pattern = c.args.profile.now.pattern in
    let resource = c.args.resource.now in
    let computed = text_computes (covers_text pattern resource) pattern resource refl in
    both_ways c.covers.result (covers_text pattern resource) (λ e. computed.1 (c.covers.ensures.0 e)) (λ e. c.covers.ensures.1 (computed.0 e))

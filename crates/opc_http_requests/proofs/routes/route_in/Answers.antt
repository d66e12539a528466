use Rattle.std.proofs.Common.{◌∙◌, ap, arith, sym}
use Rattle.opc_http_requests.proofs.RouteLemmas.{first-value, text-bytes, value_of}
use Rattle.opc_http_requests.proofs.routes.route_in.Goals as goal

pub returns-in-Ok : goal.returns-in-Ok
returns-in-Ok c = ap value_of (sym (rw c.requires at c.in-Ok.ensures.found))
    ∙ first-value c.args.path.now (text-bytes c.args.path.now (λ i. omega (arith, c.type_inv.path i)))

pub returns-in-Err : goal.returns-in-Err
returns-in-Err c = ap value_of (sym (rw c.requires at c.in-Err.ensures.missing))
    ∙ first-value c.args.path.now (text-bytes c.args.path.now (λ i. omega (arith, c.type_inv.path i)))

use Rattle.std.proofs.Common.{◌∙◌, ap, subst}
use Rattle.opc_cli_failures.specs.Statuses.{status_of}
use Rattle.opc_cli_program.proofs.Services.{handed_back, not_served}
use Rattle.opc_cli_program.proofs.serve.serve_from.Goals as goal

pub returns-in-Err-clause-serves : goal.returns-in-Err-clause-serves
returns-in-Err-clause-serves g c =
    let back = c.in-Err.ensures.refused in
    not_served g.T.Tables.meaning _ _ _ _ _ _ _ c.args.trail c.args.clients.now _ _ _ _ _ c.args.clients.now.address
    (record { failed = ap status_of (c.from.ensures ∙ back.0); same = back.1 })

pub returns-clause-serves : goal.returns-clause-serves
returns-clause-serves g c =
    let t = g.T.Tables in
    let made = c.in-Ok.ensures.made in
    handed_back t.meaning c.in-Ok.gate c.serve_service-end.new.service.gate
    (λ s h. c.in-Ok.ensures.represents s (subst (λ tables. t.meaning.represents tables s) made.0 h))
    _ _ _ _ _ c.args.trail c.args.clients.now c.serve_service-end.result _ _ _ _ _ _
    (λ asked listener port said. said.1) (λ path mode socket said. said.1)
    _ _ made.0 c.into_store.ensures c.args.clients.now.address c.serve_service-end.ensures.serves

use Rattle.std.proofs.Common.{◌∙◌, inr, subst, sym}
use Rattle.opc_http_connections.proofs.Limits.{shortly}
use Rattle.opc_http_connections.proofs.drain.drain.Goals as goal

pub returns-then-is_ok-2-clause-drained : goal.returns-then-is_ok-2-clause-drained
returns-then-is_ok-2-clause-drained g c =
    let hurried = c.hurry-hurried.ensures in
    inr (
      subst (λ able. g.C.Connection.shuts c.args.reader.now.handle able) (sym c.is_ok.ensures.value ∙ c.if-is_ok.true) c.shut-shut.ensures,
      inr (shortly _ _ _ _ c.from_secs.result _ _ _ _ (cc) (sym c.is_ok-then-is_ok.ensures.value ∙ c.if-is_ok-2.true) hurried.hurried hurried.same
          c.drain_rest.ensures.out),
    )

use Rattle.std.proofs.Common.{◌∙◌, Some, sym, ap}
use Rattle.opc_store_history.proofs.BatchLoads.{read_back}
use Rattle.opc_store_history.proofs.batches.batch_rows_on.Goals as goal

pub returns-in_ok-rows-in-Some-clause-found : goal.returns-in_ok-rows-in-Some-clause-found
returns-in_ok-rows-in-Some-clause-found g c clean s was =
    let it = read_back s.batches c.args.number was.ordered.read_back c.in-Some.text (sym c.in-Some.is ∙ c.in_ok-text.ensures.found clean s was) in
    ap (λ rows. Some rows) (c.in_ok-rows-in-Some.ensures it.0.rows it.1) ∙ sym it.2

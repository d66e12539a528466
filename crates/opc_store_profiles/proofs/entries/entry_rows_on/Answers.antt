use Rattle.std.proofs.lemmas.Result.{IfOk-weaker}
use Rattle.opc_store_sql.proofs.Asked.{never_writes}
use Rattle.opc_store_profiles.proofs.ListLoads.{lists_asked, lists_returned}
use Rattle.opc_store_profiles.proofs.entries.entry_rows_on.Goals as goal

pub read-requires-clause-quiet : goal.read-requires-clause-quiet
read-requires-clause-quiet g c = never_writes lists_asked

pub returns-clause-found : goal.returns-clause-found
returns-clause-found g c clean s was =
    IfOk-weaker c.read.result _ _ (λ rows shown. lists_returned _ _ s was c.args.class rows.items
    (rw (c.params-to_sql.ensures, c.text.ensures.text) at shown)) (c.read.ensures.shown clean)

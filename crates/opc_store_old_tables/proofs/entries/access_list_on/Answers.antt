use Rattle.std.proofs.Common.{◌∙◌, []}
use Rattle.opc_store_sql.proofs.Asked.{never_writes}
use Rattle.opc_state.specs.Changes.{with_batches}
use Rattle.opc_store_profiles.proofs.EntryLoads.{list_ordered}
use Rattle.opc_store_old_tables.specs.Tables.{First}
use Rattle.opc_store_old_tables.proofs.EntryLoads.{entries_asked, entries_returned}
use Rattle.opc_store_old_tables.proofs.entries.access_list_on.Goals as goal

pub read-requires-clause-quiet : goal.read-requires-clause-quiet
read-requires-clause-quiet g c = never_writes (entries_asked First)

pub returns-clause-found : goal.returns-clause-found
returns-clause-found g c clean version s was =
    let class = c.args.class in
    let pattern = c.args.pattern.now in
    let shown = rw (c.params-to_sql.ensures, c.params-to_sql-2.ensures, c.text.ensures.text, c.text-2.ensures.text) at (c.in_ok-rows.ensures.shown clean) in
    c.entries_in.ensures class pattern _ (list_ordered (with_batches [] s) was.state.ordered class pattern)
    (c.as_slice.ensures.value ∙ entries_returned version _ _ s was class pattern _ shown)

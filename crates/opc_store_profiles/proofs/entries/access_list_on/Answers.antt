use Rattle.std.proofs.Common.{◌∙◌}
use Rattle.opc_store_sql.proofs.Asked.{never_writes}
use Rattle.opc_store_profiles.proofs.EntryLoads.{entries_asked, entries_returned, list_ordered}
use Rattle.opc_store_schema.proofs.Kept.{looks_for}
use Rattle.opc_store_profiles.proofs.entries.access_list_on.Goals as goal

pub read-requires-clause-quiet : goal.read-requires-clause-quiet
read-requires-clause-quiet g c = never_writes entries_asked

pub returns-clause-found : goal.returns-clause-found
returns-clause-found g c clean s was =
    let class = c.args.class in
    let pattern = c.args.pattern.now in
    let shown = rw (c.params-to_sql.ensures, c.params-to_sql-2.ensures, c.text.ensures.text, c.text-2.ensures.text) at (c.in_ok-rows.ensures.shown clean) in
    c.entries_in.ensures class pattern _ (list_ordered s was.ordered class pattern)
    (c.as_slice.ensures.value ∙ entries_returned _ _ s was class pattern _ shown)

pub returns-clause-looks : goal.returns-clause-looks
returns-clause-looks g c = looks_for g.S.Store _ c.entries_in.result _ _ c.in_ok-rows.ensures.looks

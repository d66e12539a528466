use Rattle.std.proofs.Common.{◌≡◌, ◌∙◌, List, map, sym}
use Rattle.opc_policy_members.specs.Profiles.{of_class}
use Rattle.opc_policy_shared.specs.Shared.{with_heads_between}
use Rattle.opc_state.specs.Loads.{bare}
use Rattle.opc_store_schema.proofs.Kept.{looks_for}
use Rattle.opc_store_search.proofs.BetweenLoads.{between_asked, between_returned, between_bare}
use Rattle.opc_store_sql.proofs.Asked.{never_writes}
use Rattle.opc_store_search.proofs.between.definitions_between_on.Goals as goal

pub read-requires-clause-quiet : goal.read-requires-clause-quiet
read-requires-clause-quiet g c = never_writes between_asked

pub returns-clause-found : goal.returns-clause-found
returns-clause-found g c clean s was =
    let class = c.args.class in
    let first = c.args.first.now in
    let last = c.args.last.now in
    let shown = rw (c.params-to_sql.ensures, c.params-to_sql-2.ensures, c.params-to_sql-3.ensures, c.text.ensures.text) at
    (c.in_ok-rows.ensures.shown clean) in
    rw (between_bare first last (of_class class s.policy.profiles))
    (c.definitions_in.ensures (with_heads_between first last (of_class class s.policy.profiles))
    (c.as_slice.ensures.value ∙ between_returned class first last _ _ s was _ shown))

pub returns-clause-looks : goal.returns-clause-looks
returns-clause-looks g c = looks_for g.S.Store _ c.definitions_in.result _ _ c.in_ok-rows.ensures.looks

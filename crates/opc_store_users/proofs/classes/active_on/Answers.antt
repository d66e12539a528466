use Rattle.std.proofs.Common.{◌∙◌}
use Rattle.opc_store_sql.proofs.Asked.{never_writes}
use Rattle.opc_policy_members.specs.Taken.{is_active}
use Rattle.opc_store_users.proofs.ClassLoads.{class_asked, class_returned}
use Rattle.opc_store_schema.proofs.Kept.{looks_for}
use Rattle.opc_store_users.proofs.classes.active_on.Goals as goal

pub read-requires-clause-quiet : goal.read-requires-clause-quiet
read-requires-clause-quiet g c = never_writes class_asked

pub returns-clause-found : goal.returns-clause-found
returns-clause-found g c clean s was =
    let class = c.args.class in
    let shown = rw (c.params-to_sql.ensures, c.text.ensures.text) at (c.in_ok-rows.ensures.shown clean) in
    c.active_in.ensures class (is_active s.policy.active class) (c.as_slice.ensures.value ∙ class_returned _ _ s was class _ shown)

pub returns-clause-looks : goal.returns-clause-looks
returns-clause-looks g c = looks_for g.S.Store _ c.active_in.result _ _ c.in_ok-rows.ensures.looks

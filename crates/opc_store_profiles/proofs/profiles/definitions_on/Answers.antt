use Rattle.std.proofs.Common.{◌∙◌}
use Rattle.opc_store_sql.proofs.Asked.{never_writes}
use Rattle.opc_policy_members.specs.Profiles.{of_class}
use Rattle.opc_store_profiles.proofs.ProfileLoads.{by_class_asked, class_returned}
use Rattle.opc_store_schema.proofs.Kept.{looks_for}
use Rattle.opc_store_profiles.proofs.profiles.definitions_on.Goals as goal

pub read-requires-clause-quiet : goal.read-requires-clause-quiet
read-requires-clause-quiet g c = never_writes by_class_asked

pub returns-clause-found : goal.returns-clause-found
returns-clause-found g c clean s was =
    let class = c.args.class in
    let shown = rw (c.params-to_sql.ensures, c.text.ensures.text) at (c.in_ok-rows.ensures.shown clean) in
    c.definitions_in.ensures (of_class class s.policy.profiles) (c.as_slice.ensures.value ∙ class_returned class _ _ s was _ shown)

pub returns-clause-looks : goal.returns-clause-looks
returns-clause-looks g c = looks_for g.S.Store _ c.definitions_in.result _ _ c.in_ok-rows.ensures.looks

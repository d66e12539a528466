use Rattle.std.proofs.Common.{◌∙◌, arith}
use Rattle.sqlite.specs.Effect.{Database}
use Rattle.sqlite.specs.Held.{state}
use Rattle.sqlite.specs.State.{HasCleanDisk}
use Rattle.opc_store_sql.proofs.Asked.{never_writes}
use Rattle.opc_store_sql.proofs.Looking.{looked, looks_on}
use Rattle.opc_policy_members.specs.Profiles.{of_class}
use Rattle.opc_store_schema.specs.Represented.{Represents}
use Rattle.opc_store_profiles.proofs.ProfileLoads.{by_class_asked, class_returned}
use Rattle.opc_store_profiles.proofs.profiles.profiles_of_on.Goals as goal

pub read-requires-clause-quiet : goal.read-requires-clause-quiet
read-requires-clause-quiet g c = never_writes by_class_asked

pub returns-clause-found : goal.returns-clause-found
returns-clause-found g c clean s was =
    let next = c.in_ok-entries.ensures in
    let early : HasCleanDisk (state g.S.Store c.read.new.conn) = omega (arith, next.looks.survives.clean) in
    let shown = rw (c.params-to_sql.ensures, c.text.ensures.text) at (c.in_ok-rows.ensures.shown early) in
    let mid = looked g.S.Store _ _ _ _ _ c.in_ok-rows.ensures.looks early (λ (d : Database). Represents d s) was in
    let lists = next.found clean s mid in
    c.whole_in.ensures (of_class c.args.class s.policy.profiles) (rw c.as_slice-2.ensures.value lists)
    (c.as_slice.ensures.value ∙ class_returned c.args.class _ _ s was _ shown)

pub returns-clause-looks : goal.returns-clause-looks
returns-clause-looks g c = looks_on g.S.Store _ _ c.read.new.conn _ c.in_ok-rows.ensures.looks _ c.whole_in.result c.in_ok-entries.ensures.looks

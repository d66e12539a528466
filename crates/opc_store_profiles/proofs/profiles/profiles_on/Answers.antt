use Rattle.std.proofs.Common.{◌∙◌, ◌++◌, ap₂, List, arith}
use Rattle.sqlite.specs.Effect.{Database}
use Rattle.sqlite.specs.Held.{state}
use Rattle.sqlite.specs.State.{HasCleanDisk}
use Rattle.opc_store_sql.proofs.Looking.{looked, looks_as, looks_then}
use Rattle.opc_policy_members.specs.declared.profile.Profile.{Profile}
use Rattle.opc_store_schema.specs.Represented.{Represents}
use Rattle.opc_store_profiles.proofs.ProfileLoads.{by_classes}
use Rattle.opc_store_profiles.proofs.profiles.profiles_on.Goals as goal

pub returns-clause-found : goal.returns-clause-found
returns-clause-found g c clean s was =
    let first = c.in_ok-profiles.ensures in
    let second = c.in_ok-others.ensures in
    let early : HasCleanDisk (state g.S.Store c.profiles_of_on.new.conn) = omega (arith, second.looks.survives.clean) in
    let mid = looked g.S.Store _ _ _ _ _ first.looks early (λ (d : Database). Represents d s) was in
    c.in_ok-append.ensures.items
    ∙ (ap₂ (λ (a b : List Profile). a ++ b) (first.found early s was) (second.found clean s mid)
    ∙ by_classes s.policy.profiles was.ordered.profiles)

pub returns-clause-looks : goal.returns-clause-looks
returns-clause-looks g c =
    let both = looks_then g.S.Store _ _ _ _ _ _ _ c.profiles_of_on.new.conn _ c.in_ok-profiles.ensures.looks c.in_ok-others.ensures.looks in
    looks_as g.S.Store _ _ _ _ _ _ _ _ both

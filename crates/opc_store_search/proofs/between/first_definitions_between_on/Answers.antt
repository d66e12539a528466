use Rattle.std.proofs.Common.{arith}
use Rattle.std.proofs.lemmas.Result.{IfOk-weaker}
use Rattle.sqlite.specs.Effect.{Database}
use Rattle.sqlite.specs.Held.{state}
use Rattle.sqlite.specs.State.{HasCleanDisk}
use Rattle.opc_store_sql.proofs.Looking.{looked, looks_then}
use Rattle.opc_store_schema.specs.Represented.{Represents}
use Rattle.opc_store_search.proofs.between.first_definitions_between_on.Goals as goal

pub returns-clause-looks : goal.returns-clause-looks
returns-clause-looks g c = looks_then g.S.Store _ _ _ _ _ _ _ c.see_profiles_on.new.conn _
    c.in_ok-see_profiles_on.ensures.looks c.definitions_between_on.ensures.looks

pub returns-clause-found : goal.returns-clause-found
returns-clause-found g c clean s was =
    let next = c.definitions_between_on.ensures in
    let seen : HasCleanDisk (state g.S.Store c.see_profiles_on.new.conn) = omega (arith, next.looks.survives.clean) in
    let mid = looked g.S.Store _ _ _ _ _ c.in_ok-see_profiles_on.ensures.looks seen (λ (d : Database). Represents d s) was in
    next.found clean s mid

pub returns-clause-seen : goal.returns-clause-seen
returns-clause-seen g c clean =
    let next = c.definitions_between_on.ensures in
    IfOk-weaker c.definitions_between_on.result _ _
    (λ _ _. c.in_ok-see_profiles_on.ensures.seen (omega (arith, next.looks.survives.clean))) (next.looks.opened clean)

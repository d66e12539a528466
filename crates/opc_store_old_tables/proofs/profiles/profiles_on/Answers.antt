use Rattle.std.proofs.Common.{◌∙◌, arith}
use Rattle.sqlite.specs.Held.{state}
use Rattle.sqlite.specs.State.{HasCleanDisk}
use Rattle.sqlite.specs.Effect.{Database}
use Rattle.opc_store_sql.proofs.Asked.{never_writes}
use Rattle.opc_store_sql.proofs.Looking.{looks_then, looked}
use Rattle.opc_store_old_tables.specs.Tables.{First}
use Rattle.opc_store_old_tables.specs.Old.{RepresentsOld}
use Rattle.opc_store_old_tables.specs.Read.{by_text}
use Rattle.opc_store_old_tables.proofs.ProfileLoads.{profiles_asked, profiles_returned, all_among}
use Rattle.opc_store_old_tables.proofs.profiles.profiles_on.Goals as goal

pub read-requires-clause-quiet : goal.read-requires-clause-quiet
read-requires-clause-quiet g c = never_writes (profiles_asked First)

pub returns-clause-looks : goal.returns-clause-looks
returns-clause-looks g c =
    let first = c.in_ok-rows.ensures.looks in
    looks_then g.S.Store _ _ _ _ _ c.profiles_in.result _ _ _ first (c.profiles_in.ensures.looks first.opened)

pub returns-clause-found : goal.returns-clause-found
returns-clause-found g c clean version s was =
    let first = c.in_ok-rows.ensures.looks in
    let second = c.profiles_in.ensures.looks first.opened in
    let early : HasCleanDisk (state g.S.Store c.read.new.conn) = omega (arith, second.survives.clean) in
    let mid = looked g.S.Store _ _ _ _ _ first early (λ (d : Database). RepresentsOld version d s) was in
    c.profiles_in.ensures.found clean version s mid (by_text s.policy.profiles)
    (all_among s.policy.profiles was.state.ordered.profiles)
    (c.as_slice.ensures.value ∙ profiles_returned version _ _ s was _ (c.in_ok-rows.ensures.shown early))

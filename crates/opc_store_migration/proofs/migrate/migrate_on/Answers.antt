use Rattle.std.proofs.Common.{arith}
use Rattle.sqlite.specs.Effect.{Database}
use Rattle.sqlite.specs.Held.{state}
use Rattle.sqlite.specs.State.{HasCleanDisk}
use Rattle.sqlite.proofs.StateLemmas.{survives_then}
use Rattle.opc_store_sql.proofs.Looking.{looked}
use Rattle.opc_store_old_tables.specs.Old.{RepresentsOld}
use Rattle.opc_store_migration.proofs.migrate.migrate_on.Goals as goal

pub returns-in-Ok-clause-done : goal.returns-in-Ok-clause-done
returns-in-Ok-clause-done g c clean version s was =
    let read = c.in_ok-puts.ensures in
    let early : HasCleanDisk (state g.S.Store c.migration_edits_on.new.conn) = omega (arith, c.in-Ok.ensures.survives.clean) in
    c.in-Ok.ensures.done clean version s
    (looked g.S.Store _ _ _ _ _ read.looks early (λ (d : Database). RepresentsOld version d s) was)
    (read.found early version s was)

pub returns-in-Ok-clause-survives : goal.returns-in-Ok-clause-survives
returns-in-Ok-clause-survives g c =
    let old = c.args.conn.now in
    let mid = c.migration_edits_on.new.conn in
    let new = c.transact.new.conn in
    let read = c.in_ok-puts.ensures in
    survives_then (state g.S.Store old) (state g.S.Store mid) (state g.S.Store new) (λ _. ⊥) _ _ (λ _ db none. absurd none)
    (λ clean db made version s was.
    let early : HasCleanDisk (state g.S.Store mid) = omega (arith, c.in-Ok.ensures.survives.clean) in
    made version s (looked g.S.Store _ _ _ _ _ read.looks early (λ (d : Database). RepresentsOld version d s) was)
    (read.found early version s was)) read.looks.survives c.in-Ok.ensures.survives

pub returns-clause-survives : goal.returns-clause-survives
returns-clause-survives g c =
    let old = c.args.conn.now in
    let mid = c.migration_edits_on.new.conn in
    let new = c.transact.new.conn in
    let read = c.in_ok-puts.ensures in
    survives_then (state g.S.Store old) (state g.S.Store mid) (state g.S.Store new) (λ _. ⊥) _ _ (λ _ db none. absurd none)
    (λ clean db made version s was.
    let early : HasCleanDisk (state g.S.Store mid) = omega (arith, c.in-Err.ensures.survives.clean) in
    made version s (looked g.S.Store _ _ _ _ _ read.looks early (λ (d : Database). RepresentsOld version d s) was)
    (read.found early version s was)) read.looks.survives c.in-Err.ensures.survives

use Rattle.std.proofs.Common.{arith}
use Rattle.sqlite.specs.Effect.{Database}
use Rattle.sqlite.specs.Held.{state}
use Rattle.sqlite.specs.State.{HasCleanDisk}
use Rattle.opc_store_sql.proofs.Looking.{looked}
use Rattle.opc_store_old_tables.specs.Old.{RepresentsOld}
use Rattle.opc_store_old_tables.proofs.edits.migration_edits_on.Goals as goal

pub returns-clause-found : goal.returns-clause-found
returns-clause-found g c clean version s was =
    let users = c.in_ok-users.ensures in
    let connects = c.in_ok-connects.ensures in
    let profiles = c.in_ok-profiles.ensures in
    let batches = c.in_ok-batches.ensures in
    let third : HasCleanDisk (state g.S.Store c.profiles_on.new.conn) = omega (arith, batches.looks.survives.clean) in
    let second : HasCleanDisk (state g.S.Store c.connects_on.new.conn) = omega (arith, profiles.looks.survives.clean) in
    let first : HasCleanDisk (state g.S.Store c.users_on.new.conn) = omega (arith, connects.looks.survives.clean) in
    let was_one = looked g.S.Store _ _ _ _ _ users.looks first (λ (d : Database). RepresentsOld version d s) was in
    let was_two = looked g.S.Store _ _ _ _ _ connects.looks second (λ (d : Database). RepresentsOld version d s) was_one in
    let was_three = looked g.S.Store _ _ _ _ _ profiles.looks third (λ (d : Database). RepresentsOld version d s) was_two in
    record {
      users = users.found first version s was;
      connects = connects.found second version s was_one;
      profiles = profiles.found third version s was_two;
      batches = batches.found clean version s was_three;
    }

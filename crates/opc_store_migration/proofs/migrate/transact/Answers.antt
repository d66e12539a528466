use Rattle.std.proofs.Common.{◌≡◌, OnOk, sym, subst, rules, arith}
use Rattle.sqlite.specs.Effect.{Database}
use Rattle.sqlite.specs.Held.{Held, state}
use Rattle.sqlite.specs.State.{HasCleanDisk, Survives}
use Rattle.sqlite.specs.Tree.{Trees}
use Rattle.sqlite.proofs.StateLemmas.{survives_then, survives_weaker}
use Rattle.opc_store_sql.proofs.Work.{Leaves, transacted, crashes}
use Rattle.opc_state.specs.State.{State}
use Rattle.opc_store_schema.specs.Represented.{Represents, AreTablesOf}
use Rattle.opc_store_schema.proofs.Opened.{alone_from}
use Rattle.opc_store_old_tables.specs.Tables.{Older}
use Rattle.opc_store_old_tables.specs.Old.{RepresentsOld, old_contents}
use Rattle.opc_store_old_tables.specs.MigrationEdits.{AreMigrationEditsOf}
use Rattle.opc_store_migration.specs.Between.{emptied}
use Rattle.opc_store_migration.proofs.Refilled.{refilled}
use Rattle.opc_store_migration.proofs.migrate.transact.Goals as goal

pub returns-clause-done : goal.returns-clause-done
returns-clause-done g c clean =
    let old = c.args.conn.now in
    let tx = c.transaction-tx.result.conn.now in
    let one = c.recreate_tables.new.tx.conn.now in
    let two = c.set_version.new.tx.conn.now in
    let three = c.put_all.new.tx.conn.now in
    let end = c.commit.new.self.0 in
    let puts = c.args.puts.now in
    let P = λ (d : Database). (version : Older) → (s : State) → RepresentsOld version (state g.S.Store old).now s
    → AreMigrationEditsOf s puts → Represents d s in
    let first = c.in_ok-recreate_tables.ensures in
    let second = c.in_ok-set_version.ensures in
    let third = c.in_ok-put_all.ensures in
    let did : HasCleanDisk (state g.S.Store three) → P (state g.S.Store three).now = λ fine version s was are.
    let later : HasCleanDisk (state g.S.Store two) = omega (arith, third.stays.survives.clean) in
    let early : HasCleanDisk (state g.S.Store one) = omega (arith, second.stays.survives.clean) in
    let there = first.remade early version (old_contents version was.text_of s) (rw c.transaction-tx.ensures.begun was.tables) in
    let bare = second.renewed later version was.text_of s was.state there in
    subst (Represents (state g.S.Store three).now) (refilled s puts are was.text_of was.state) (third.done fine (emptied s) bare) in
    let both = survives_then (state g.S.Store tx) (state g.S.Store one) (state g.S.Store two) _ _ (λ _. ⊥)
    (λ _ db none. none) (λ _ db none. none) first.stays.survives second.stays.survives in
    let inside = survives_then (state g.S.Store tx) (state g.S.Store two) (state g.S.Store three) _ _ (λ _. ⊥)
    (λ _ db none. none) (λ _ db none. none) both third.stays.survives in
    let same : end ≡ c.conn-2-1.given.0 = search rules in
    let late : HasCleanDisk (state g.S.Store end) = search rules in
    let done = transacted g.S.Store old tx three end c.transaction-tx.ensures.begun P inside did
    c.commit.ensures.survives c.commit.result (c.commit.ensures.ok late) late in
    subst (λ (h : Held _). OnOk c.commit.result (P (state g.S.Store h).now)) same done

pub returns-clause-survives : goal.returns-clause-survives
returns-clause-survives g c =
    let old = c.args.conn.now in
    let tx = c.transaction-tx.result.conn.now in
    let one = c.recreate_tables.new.tx.conn.now in
    let two = c.set_version.new.tx.conn.now in
    let three = c.put_all.new.tx.conn.now in
    let end = c.commit.new.self.0 in
    let puts = c.args.puts.now in
    let P = λ (d : Database). (version : Older) → (s : State) → RepresentsOld version (state g.S.Store old).now s
    → AreMigrationEditsOf s puts → Represents d s in
    let Q = λ (t : Trees). (version : Older) → (s : State) → RepresentsOld version (state g.S.Store old).now s → AreMigrationEditsOf s puts → AreTablesOf t s in
    let first = c.in_ok-recreate_tables.ensures in
    let second = c.in_ok-set_version.ensures in
    let third = c.in_ok-put_all.ensures in
    let did : HasCleanDisk (state g.S.Store three) → P (state g.S.Store three).now = λ fine version s was are.
    let later : HasCleanDisk (state g.S.Store two) = omega (arith, third.stays.survives.clean) in
    let early : HasCleanDisk (state g.S.Store one) = omega (arith, second.stays.survives.clean) in
    let there = first.remade early version (old_contents version was.text_of s) (rw c.transaction-tx.ensures.begun was.tables) in
    let bare = second.renewed later version was.text_of s was.state there in
    subst (Represents (state g.S.Store three).now) (refilled s puts are was.text_of was.state) (third.done fine (emptied s) bare) in
    let both = survives_then (state g.S.Store tx) (state g.S.Store one) (state g.S.Store two) _ _ (λ _. ⊥)
    (λ _ db none. none) (λ _ db none. none) first.stays.survives second.stays.survives in
    let inside = survives_then (state g.S.Store tx) (state g.S.Store two) (state g.S.Store three) _ _ (λ _. ⊥)
    (λ _ db none. none) (λ _ db none. none) both third.stays.survives in
    let same : end ≡ c.conn-2-1.given.0 = search rules in
    let crash = crashes g.S.Store old tx three end c.transaction-tx.ensures.begun P inside did c.commit.ensures.survives in
    let whole = survives_weaker (state g.S.Store old) (state g.S.Store end) (Leaves P) Q
    (λ _ db h version s was are. subst (λ t. AreTablesOf t s) (sym h.is)
    (alone_from h.db s (h.holds version s was are))) crash in
    subst (λ h. Survives (state g.S.Store old) (state g.S.Store h) Q) same whole

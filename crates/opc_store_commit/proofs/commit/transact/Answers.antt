use Rattle.std.proofs.Common.{◌≡◌, OnOk, sym, subst, rules, arith}
use Rattle.sqlite.specs.Effect.{Database}
use Rattle.sqlite.specs.Held.{Held, state}
use Rattle.sqlite.specs.State.{HasCleanDisk, Survives}
use Rattle.sqlite.specs.Tree.{Trees}
use Rattle.sqlite.proofs.StateLemmas.{survives_then, survives_weaker}
use Rattle.opc_store_sql.proofs.Work.{Leaves, transacted, crashes}
use Rattle.opc_store_schema.specs.Represented.{Represents, AreTablesOf}
use Rattle.opc_store_schema.proofs.Opened.{alone_from}
use Rattle.opc_state.specs.Changes.{changed_by, all_edited}
use Rattle.opc_store_commit.proofs.commit.transact.Goals as goal

pub returns-clause-done : goal.returns-clause-done
returns-clause-done g c clean =
    let old = c.args.conn.now in
    let tx = c.transaction-tx.result.conn.now in
    let one = c.apply_all.new.tx.conn.now in
    let two = c.account_for.new.tx.conn.now in
    let end = c.commit.new.self.0 in
    let change = c.args.change.now in
    let P = λ (d : Database). (s : _) → Represents (state g.S.Store old).now s → Represents d (changed_by change s) in
    let first = c.in_ok-apply_all.ensures in
    let second = c.in_ok-account_for.ensures in
    let edits_done = rw c.as_slice.ensures.value at first.done in
    let did : HasCleanDisk (state g.S.Store two) → P (state g.S.Store two).now = λ fine s was.
    second.done fine (all_edited change.edits.items s) (edits_done (omega (arith, second.stays.survives.clean)) s (rw c.transaction-tx.ensures.begun was)) in
    let inside = survives_then (state g.S.Store tx) (state g.S.Store one) (state g.S.Store two) _ _ (λ _. ⊥)
    (λ _ db none. none) (λ _ db none. none) first.stays.survives second.stays.survives in
    let same : end ≡ c.conn-2-1.given.0 = search rules in
    let late : HasCleanDisk (state g.S.Store end) = search rules in
    let done = transacted g.S.Store old tx two end c.transaction-tx.ensures.begun P inside did c.commit.ensures.survives
    c.commit.result (c.commit.ensures.ok late) late in
    subst (λ (h : Held _). OnOk c.commit.result (P (state g.S.Store h).now)) same done

pub returns-clause-survives : goal.returns-clause-survives
returns-clause-survives g c =
    let old = c.args.conn.now in
    let tx = c.transaction-tx.result.conn.now in
    let one = c.apply_all.new.tx.conn.now in
    let two = c.account_for.new.tx.conn.now in
    let end = c.commit.new.self.0 in
    let change = c.args.change.now in
    let P = λ (d : Database). (s : _) → Represents (state g.S.Store old).now s → Represents d (changed_by change s) in
    let Q = λ (t : Trees). (s : _) → Represents (state g.S.Store old).now s → AreTablesOf t (changed_by change s) in
    let first = c.in_ok-apply_all.ensures in
    let second = c.in_ok-account_for.ensures in
    let edits_done = rw c.as_slice.ensures.value at first.done in
    let did : HasCleanDisk (state g.S.Store two) → P (state g.S.Store two).now = λ fine s was.
    second.done fine (all_edited change.edits.items s) (edits_done (omega (arith, second.stays.survives.clean)) s (rw c.transaction-tx.ensures.begun was)) in
    let inside = survives_then (state g.S.Store tx) (state g.S.Store one) (state g.S.Store two) _ _ (λ _. ⊥)
    (λ _ db none. none) (λ _ db none. none) first.stays.survives second.stays.survives in
    let same : end ≡ c.conn-2-1.given.0 = search rules in
    let crash = crashes g.S.Store old tx two end c.transaction-tx.ensures.begun P inside did c.commit.ensures.survives in
    let whole = survives_weaker (state g.S.Store old) (state g.S.Store end) (Leaves P) Q
    (λ _ db h s was. subst (λ t. AreTablesOf t (changed_by change s)) (sym h.is)
    (alone_from h.db (changed_by change s) (h.holds s was))) crash in
    subst (λ h. Survives (state g.S.Store old) (state g.S.Store h) Q) same whole

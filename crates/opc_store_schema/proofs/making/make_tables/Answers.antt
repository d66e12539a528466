use Rattle.std.proofs.Common.{◌≡◌, OnOk, sym, subst, rules, arith}
use Rattle.sqlite.specs.Effect.{Database}
use Rattle.sqlite.specs.Held.{Held, state}
use Rattle.sqlite.specs.State.{HasCleanDisk, Survives}
use Rattle.sqlite.specs.Tree.{Trees}
use Rattle.sqlite.proofs.StateLemmas.{survives_then, survives_weaker}
use Rattle.opc_store_sql.proofs.Work.{Leaves, transacted, crashes}
use Rattle.opc_store_schema.specs.Making.{AreMadeOver}
use Rattle.opc_store_schema.specs.Represented.{Represents, AreTablesOf}
use Rattle.opc_store_schema.proofs.Made.{made_over}
use Rattle.opc_store_schema.proofs.Opened.{alone_from}
use Rattle.opc_store_sql.specs.Shapes.{no_schema}
use Rattle.opc_state.specs.State.{empty}
use Rattle.opc_store_schema.proofs.making.make_tables.Goals as goal

pub returns-clause-ran : goal.returns-clause-ran
returns-clause-ran g c clean =
    let old = c.args.conn.now in
    let tx = c.transaction-tx.result.conn.now in
    let one = c.create_tables.new.tx.conn.now in
    let two = c.fill.new.tx.conn.now in
    let end = c.commit.new.self.0 in
    let P = λ (d : Database). AreMadeOver g.S.Store old d.trees in
    let first = c.in_ok-create_tables.ensures in
    let second = c.in_ok-fill.ensures in
    let did : HasCleanDisk (state g.S.Store two) → P (state g.S.Store two).now = λ fine.
    made_over g.S.Store old tx one two c.transaction-tx.ensures.begun (first.ran (omega (arith, second.stays.survives.clean))) (second.ran fine) in
    let inside = survives_then (state g.S.Store tx) (state g.S.Store one) (state g.S.Store two) _ _ (λ _. ⊥)
    (λ _ db none. none) (λ _ db none. none) first.stays.survives second.stays.survives in
    let same : end ≡ c.conn-2-1.given.0 = search rules in
    let late : HasCleanDisk (state g.S.Store end) = search rules in
    let done = transacted g.S.Store old tx two end c.transaction-tx.ensures.begun P inside did c.commit.ensures.survives
    c.commit.result (c.commit.ensures.ok late) late in
    subst (λ (h : Held _). OnOk c.commit.result (P (state g.S.Store h).now)) same done

pub returns-clause-made : goal.returns-clause-made
returns-clause-made g c clean =
    let old = c.args.conn.now in
    let tx = c.transaction-tx.result.conn.now in
    let one = c.create_tables.new.tx.conn.now in
    let two = c.fill.new.tx.conn.now in
    let end = c.commit.new.self.0 in
    let P = λ (d : Database). old.schema ≡ no_schema → Represents d empty in
    let first = c.in_ok-create_tables.ensures in
    let second = c.in_ok-fill.ensures in
    let did : HasCleanDisk (state g.S.Store two) → P (state g.S.Store two).now = λ fine none.
    second.filled fine (first.made (omega (arith, second.stays.survives.clean)) (rw c.transaction-tx.ensures.begun none)) in
    let inside = survives_then (state g.S.Store tx) (state g.S.Store one) (state g.S.Store two) _ _ (λ _. ⊥)
    (λ _ db none. none) (λ _ db none. none) first.stays.survives second.stays.survives in
    let same : end ≡ c.conn-2-1.given.0 = search rules in
    let late : HasCleanDisk (state g.S.Store end) = search rules in
    let done = transacted g.S.Store old tx two end c.transaction-tx.ensures.begun P inside did c.commit.ensures.survives
    c.commit.result (c.commit.ensures.ok late) late in
    subst (λ (h : Held _). OnOk c.commit.result (P (state g.S.Store h).now)) same done

pub returns-clause-survives : goal.returns-clause-survives
returns-clause-survives g c =
    let old = c.args.conn.now in
    let tx = c.transaction-tx.result.conn.now in
    let one = c.create_tables.new.tx.conn.now in
    let two = c.fill.new.tx.conn.now in
    let end = c.commit.new.self.0 in
    let P = λ (d : Database). AreMadeOver g.S.Store old d.trees × (old.schema ≡ no_schema → Represents d empty) in
    let Q = λ (t : Trees). AreMadeOver g.S.Store old t × (old.schema ≡ no_schema → AreTablesOf t empty) in
    let first = c.in_ok-create_tables.ensures in
    let second = c.in_ok-fill.ensures in
    let did : HasCleanDisk (state g.S.Store two) → P (state g.S.Store two).now = λ fine.
    let early : HasCleanDisk (state g.S.Store one) = omega (arith, second.stays.survives.clean) in (
      made_over g.S.Store old tx one two c.transaction-tx.ensures.begun (first.ran early) (second.ran fine),
      λ none. second.filled fine (first.made early (rw c.transaction-tx.ensures.begun none)),
    ) in
    let inside = survives_then (state g.S.Store tx) (state g.S.Store one) (state g.S.Store two) _ _ (λ _. ⊥)
    (λ _ db none. none) (λ _ db none. none) first.stays.survives second.stays.survives in
    let same : end ≡ c.conn-2-1.given.0 = search rules in
    let crash = crashes g.S.Store old tx two end c.transaction-tx.ensures.begun P inside did c.commit.ensures.survives in
    let whole = survives_weaker (state g.S.Store old) (state g.S.Store end) (Leaves P) Q
    (λ _ db h. (
      subst (AreMadeOver g.S.Store old) (sym h.is) h.holds.0,
      λ none. subst (λ t. AreTablesOf t empty) (sym h.is) (alone_from h.db empty (h.holds.1 none)),
    )) crash in
    subst (λ h. Survives (state g.S.Store old) (state g.S.Store h) Q) same whole

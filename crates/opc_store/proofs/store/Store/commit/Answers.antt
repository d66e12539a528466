use Rattle.std.proofs.Common.{OnOk, subst}
use Rattle.sqlite.specs.Held.{Held, state}
use Rattle.sqlite.specs.State.{Survives}
use Rattle.opc_state.specs.Changes.{changed_by}
use Rattle.opc_store_schema.specs.Represented.{Represents, AreTablesOf}
use Rattle.opc_store.proofs.StoreTablesLemmas.{commit_acknowledged, commit_crash, commit_open}
use Rattle.opc_store.proofs.store.Store.commit.Goals as goal

pub returns-clause-open : goal.returns-clause-open
returns-clause-open g c clean =
    let change = c.args.change.now in
    let new = c.commit_on.new.conn in
    let crash = subst (λ (h : Held _). Survives (state g.S.Store h) (state g.S.Store new)
    (λ db. (s : _) → Represents (state g.S.Store h).now s → AreTablesOf db (changed_by change s))) c.self.view_is
    c.commit_on.ensures.crash in
    commit_open g.S.Store _ c.args.self.now c.see_open.new.self new change c.commit_on.result c.in_ok-see_open.ensures.keeps crash clean

pub returns-clause-acknowledged : goal.returns-clause-acknowledged
returns-clause-acknowledged g c clean s was =
    let change = c.args.change.now in
    let new = c.commit_on.new.conn in
    let crash = subst (λ (h : Held _). Survives (state g.S.Store h) (state g.S.Store new)
    (λ db. (s : _) → Represents (state g.S.Store h).now s → AreTablesOf db (changed_by change s))) c.self.view_is
    c.commit_on.ensures.crash in
    let returned =
    subst (λ (h : Held _). OnOk c.commit_on.result
    ((db : _) → (state g.S.Store new).may_leave db → (s : _) → Represents (state g.S.Store h).now s
    → AreTablesOf db (changed_by change s))) c.self.view_is (c.commit_on.ensures.acknowledged clean) in
    commit_acknowledged g.S.Store _ c.args.self.now c.see_open.new.self new change c.commit_on.result c.in_ok-see_open.ensures.keeps crash clean s was returned

pub returns-clause-crash : goal.returns-clause-crash
returns-clause-crash g c clean s was =
    let change = c.args.change.now in
    let new = c.commit_on.new.conn in
    let crash = subst (λ (h : Held _). Survives (state g.S.Store h) (state g.S.Store new)
    (λ db. (s : _) → Represents (state g.S.Store h).now s → AreTablesOf db (changed_by change s))) c.self.view_is
    c.commit_on.ensures.crash in
    commit_crash g.S.Store _ c.args.self.now c.see_open.new.self new change c.commit_on.result c.in_ok-see_open.ensures.keeps crash clean s was

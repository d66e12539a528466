-- A transaction as a whole.
use Rattle.std.proofs.Common.{◌≡◌, true, false, Result, OnOk, IsTrue, sym, subst, [], arith}
use Rattle.std.proofs.lemmas.Result.{on_ok_weaker}
use Rattle.sqlite_trees.specs.declared.store.Store.{Ghosts}
use Rattle.sqlite.specs.Effect.{Database}
use Rattle.sqlite.specs.Tree.{Trees}
use Rattle.sqlite.specs.Held.{Held, state}
use Rattle.sqlite.specs.State.{HasCleanDisk, Survives, Shows, KeepsCounts}
use Rattle.sqlite.proofs.StateLemmas.{survives_then}
use Rattle.sqlite.proofs.Callers.{survives_begin}

-- P of what a commit leaves
pub record Leaves (P : Database → Type 0) (trees : Trees) : Type 0 where
  pub db : Database
  pub holds : P db
  pub is : trees ≡ db.trees

module _ {S : Type 0} (g : Ghosts S) (old tx mid end : Held S) (begun : tx ≡ record old { in_transaction = true }) (P : Database → Type 0)
    (survives : Survives (state g tx) (state g mid) (λ _. ⊥)) (did : HasCleanDisk (state g mid) → P (state g mid).now)
    (commits : Survives (state g mid) (state g end) (λ db. db ≡ (state g mid).now.trees)) where
  pub transacted : {X E : Type 0} (r : Result X E)
      → OnOk r (IsTrue (state g mid).in_transaction
      × Shows (state g mid) (state g end) (state g mid).now (state g mid).now false
      × KeepsCounts (state g mid) (state g end) × ((state g end).marks ≡ []))
      → HasCleanDisk (state g end) → OnOk r (P (state g end).now)
  transacted r ok clean = on_ok_weaker r (λ h. subst P (sym h.1.now_is) (did (omega (arith, commits.clean)))) ok

  pub crashes : Survives (state g old) (state g end) (Leaves P)
  crashes =
      let inside : Survives (state g (record old { in_transaction = true })) (state g mid) (λ _. ⊥) =
      subst (λ (h : Held S). Survives (state g h) (state g mid) (λ _. ⊥)) begun survives in
      survives_then (state g old) (state g mid) (state g end) (λ _. ⊥) (λ db. db ≡ (state g mid).now.trees) (Leaves P)
      (λ _ db none. absurd none) (λ clean db is. record {
        db = (state g mid).now;
        holds = did (omega (arith, commits.clean));
        is = is;
      }) (survives_begin g old (state g mid) _ inside) commits

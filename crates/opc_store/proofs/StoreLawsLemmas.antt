-- What a crash leaves of tables, beneath the states that it may leave, and the answers of closed tables.
use Rattle.std.proofs.Common.{◌≡◌, ◌∙◌, true, false, Ok, Err, refl, sym, ap, subst}
use Rattle.sqlite_trees.specs.declared.store.Store.{Ghosts}
use Rattle.sqlite_trees.specs.Tree.{Trees}
use Rattle.sqlite.specs.Held.{state}
use Rattle.opc_state.specs.State.{State, empty}
use Rattle.opc_state.specs.Changes.{with_halted}
use Rattle.opc_store_schema.specs.Represented.{AreTablesOf}
use Rattle.opc_store_schema.proofs.Decoded.{one_state}
use Rattle.opc_store_schema.proofs.Opened.{alone_from}
use Rattle.opc_store.specs.StoreTables.{store_meaning}
use Rattle.opc_store.specs.StoreLaws.{LeavesTables, LeavesWhatIsThere, ShutTablesGiveNothing, ShutTablesReturnNothing}

module _ {S : Type 0} (g : Ghosts S) where
  pub leaves_tables : LeavesTables g (store_meaning g)
  leaves_tables h s alone clean trees may never =
      let one = alone empty (clean, trees, may, λ t are. absurd (none t are)) in
      let two = alone (with_halted true empty) (clean, trees, may, λ t are. absurd (none t are)) in
      let same : false ≡ true = ap (λ (t : State). t.board.halted) (one ∙ sym two) in
      absurd (cc)
    where
      none : (t : State) → AreTablesOf trees t → ⊥
      none t are = never (subst (AreTablesOf trees) (alone t (clean, trees, may, λ u those. one_state trees u t those are)) are)

  pub leaves_what_is_there : LeavesWhatIsThere g (store_meaning g)
  leaves_what_is_there h s itself was left it =
      sym (it.3 s (subst (λ (t : Trees). AreTablesOf t s) (sym (itself it.0 it.1 it.2)) (alone_from (state g h).now s was)))

  pub shut_give_nothing : (V E : Type 0) → ShutTablesGiveNothing g V E
  shut_give_nothing V E old new (Ok v) looks clean shut = absurd (shut (looks.was_open clean (looks.opened clean)))
  shut_give_nothing V E old new (Err e) looks clean shut = (refl, λ is_open. shut (looks.was_open clean is_open))

  pub shut_return_nothing : (V W E : Type 0) → ShutTablesReturnNothing g V W E
  shut_return_nothing V W E old new (Ok v) part asked answers clean shut s t differ =
      absurd (differ (sym (answers clean s (λ is_open. absurd (shut is_open))) ∙ answers clean t (λ is_open. absurd (shut is_open))))
  shut_return_nothing V W E old new (Err e) part asked answers clean shut s t differ = refl

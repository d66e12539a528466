-- What happens to consoles depends on them, and on another master.
use Rattle.std.proofs.Common.{◌≡◌, true, false, not, ◌&&◌, ◌||◌, if◌then◌else◌, List, [], ◌∷◌, Some, None, refl, ap, ap₂, sym, ◌∙◌}
use Rattle.std.specs.List.{find}
use Rattle.opc_rows.specs.Ordered.{Ascends, changed}
use Rattle.opc_rows.proofs.Orders.{ascends_filter, ascends_changed}
use Rattle.opc_board.specs.declared.board.BoardRows.{BoardRows}
use Rattle.opc_board.specs.declared.fault.BoardFault.TheVariants.{NoTarget, LastMaster}
use Rattle.opc_board.specs.declared.rows.ConsoleRow.{ConsoleRow}
use Rattle.opc_board.specs.Consoles.{at_console, loses_master, put_offline, replaced, reset_console, varied, vary_faults, with_console}
use Rattle.opc_board.specs.Invariants.{Name, console_at, console_before, earlier, has_master, is, is_master}
use Rattle.opc_board.specs.Outcome.{◌>>=◌, done, found}
use Rattle.opc_board.specs.Footprint.{IsInOrder, Footprint, HasVaried, has_other_master, only, has_console_of}
use Rattle.opc_board.proofs.Kept.{apart_names}
use Rattle.opc_board.proofs.Names.{is_same_name}
use Rattle.opc_rows.proofs.Filtered.{any_changed, any_split, changed_left, changed_seen, passes}
use Rattle.opc_board.proofs.Agreeing.{Agrees, found_then, faults_same, done_then, console_seen, named, unnamed, found_named}

module _ (footprint : Footprint) where
  -- whether the last master is lost by a row in place of the one of its name
  lost_master : (name : Name) (console row : ConsoleRow) (consoles : List ConsoleRow) → Ascends console_before consoles
      → find (λ c. is c.name name) consoles ≡ Some console → row.name ≡ name
      → loses_master consoles (replaced row consoles) ≡ ((has_other_master name consoles || is_master console)
      && not (has_other_master name consoles || is_master row))
  lost_master name console row consoles order at same =
      ap₂ (λ was now. was && not now)
      (any_split is_master (λ c. is c.name name) console_before once consoles order ∙ ap (λ o. has_other_master name consoles || passes is_master o) at)
      (ap (λ n. has_master (changed (λ c. is c.name n) (λ c. row) consoles)) same
      ∙ any_changed is_master (λ c. is c.name name) (λ c. row) console_before once console consoles order at)
    where
      once : (x y : ConsoleRow) → is x.name name ≡ true → console_before x y ≡ true → is y.name name ≡ false
      once x y here after = apart_names x.name y.name name here after

  -- a row in place of the one of its name
  console_replaced : (row : ConsoleRow) (b : BoardRows) → IsInOrder b → footprint.consoles row.name ≡ true
      → Agrees footprint b (done (with_console row (only footprint b))) (done (with_console row b))
  console_replaced row b order sees =
      done_then footprint b (with_console row (only footprint b)) (with_console row b) []
      (ap (λ cs. record (only footprint b) { consoles = cs })
      (changed_seen (λ c. is c.name row.name) (λ c. row) (has_console_of footprint)
      (λ c here. (named footprint.consoles row.name c.name sees here, sees)) b.consoles))
      (record {
        units = order.units;
        devices = order.devices;
        consoles = ascends_changed console_before (λ c. is c.name row.name) (λ c. row)
            (λ x y here. ap (λ n. earlier n y.name) (sym (is_same_name x.name row.name here)))
            (λ x y here. ap (λ n. earlier x.name n) (sym (is_same_name y.name row.name here))) b.consoles
            order.consoles;
        replies = order.replies;
      })
      (record {
        units = refl;
        devices = refl;
        consoles = changed_left (λ c. is c.name row.name) (λ c. row) (λ c. not (has_console_of footprint c))
            (λ c here. (unnamed footprint.consoles row.name c.name sees here, ap not sees)) b.consoles;
        replies = refl;
      })

  -- the console that is found has the name
  found_console : (name : Name) (b : BoardRows) (console : ConsoleRow) → console_at b name ≡ Some console → console.name ≡ name
  found_console name b console at = is_same_name console.name name (found_named (λ (c : ConsoleRow). c.name) name console b.consoles at)

  pub varied_local : (name : Name) (change : ConsoleRow → ConsoleRow) (b : BoardRows)
      → ((c : ConsoleRow) → (change c).name ≡ c.name) → IsInOrder b → HasVaried footprint b name
      → Agrees footprint b (found NoTarget (console_at (only footprint b) name) >>= λ c. varied (change c)
      (only footprint b)) (found NoTarget (console_at b name) >>= λ c. varied (change c) b)
  varied_local name change b keeps order sees =
      found_then footprint b NoTarget (console_at (only footprint b) name) (console_at b name)
      (console_seen footprint b name sees.0) (λ c. varied (change c) (only footprint b)) (λ c. varied (change c) b)
      (λ c at.
      let same : (change c).name ≡ name = keeps c ∙ found_console name b c at in
      let few = lost_master name c (change c) (only footprint b).consoles
      (ascends_filter console_before (has_console_of footprint) b.consoles order.consoles)
      (console_seen footprint b name sees.0 ∙ at) same in
      let all = lost_master name c (change c) b.consoles order.consoles at same in
      let alike = ap (λ o. (o || is_master c) && not (o || is_master (change c))) sees.1 in
      faults_same footprint b (vary_faults (change c) (only footprint b)) (vary_faults (change c) b) _ _
      (ap (λ lost. (lost, LastMaster) ∷ []) (few ∙ alike ∙ sym all))
      (console_replaced (change c) b order (ap footprint.consoles same ∙ sees.0)))

  pub offline_named : (c : ConsoleRow) → (put_offline c).name ≡ c.name
  offline_named c = elim c.online as (λ a. (if a then record c { online = false; user = None } else c).name ≡ c.name) [ true ↦ refl | false ↦ refl ]

  pub reset_local : (name : Name) (b : BoardRows) → IsInOrder b → footprint.consoles name ≡ true
      → Agrees footprint b (reset_console name (only footprint b)) (reset_console name b)
  reset_local name b order sees =
      found_then footprint b NoTarget (console_at (only footprint b) name) (console_at b name) (console_seen footprint b name sees)
      (λ console. done (with_console (record console { user = None }) (only footprint b))) (λ console. done (with_console (record console { user = None }) b))
      (λ console at. console_replaced (record console { user = None }) b order (ap footprint.consoles (found_console name b console at) ∙ sees))

  -- a console changed under its name
  pub console_changes : (name : Name) (change : ConsoleRow → ConsoleRow) (b : BoardRows)
      → ((c : ConsoleRow) → (change c).name ≡ c.name) → IsInOrder b → footprint.consoles name ≡ true
      → Agrees footprint b (done (at_console name change (only footprint b))) (done (at_console name change b))
  console_changes name change b same order sees =
      done_then footprint b (at_console name change (only footprint b)) (at_console name change b) []
      (ap (λ cs. record (only footprint b) { consoles = cs })
      (changed_seen (λ c. is c.name name) change (has_console_of footprint)
      (λ c here. (
        named footprint.consoles name c.name sees here,
        ap footprint.consoles (same c)
            ∙ named footprint.consoles name c.name sees here,
      )) b.consoles))
      (record {
        units = order.units;
        devices = order.devices;
        consoles = ascends_changed console_before _ change (λ x y here. ap (λ n. earlier n y.name) (same x))
            (λ x y here. ap (λ n. earlier x.name n) (same y)) b.consoles order.consoles;
        replies = order.replies;
      })
      (record {
        units = refl;
        devices = refl;
        consoles = changed_left (λ c. is c.name name) change (λ c. not (has_console_of footprint c))
            (λ c here. (
              unnamed footprint.consoles name c.name sees here,
              ap (λ n. not (footprint.consoles n)) (same c)
                  ∙ unnamed footprint.consoles name c.name sees here,
            )) b.consoles;
        replies = refl;
      })

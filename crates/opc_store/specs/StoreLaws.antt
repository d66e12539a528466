-- What a crash leaves of tables, beneath the states that it may leave; what a store is as a source of profiles; and the
-- answers of closed tables.
use Rattle.std.specs.Prelude.{◌≡◌, ◌≢◌, List, Result, IsErr}
use Rattle.sqlite_trees.specs.declared.store.Store.{Ghosts}
use Rattle.sqlite_trees.specs.Tree.{Trees}
use Rattle.sqlite.specs.Held.{Held, state}
use Rattle.opc_policy_members.specs.declared.profile.Profile.{Profile}
use Rattle.opc_state.specs.Asked.{Answers}
use Rattle.opc_state.specs.Meaning.{Meaning}
use Rattle.opc_state.specs.State.{State}
use Rattle.opc_store_sql.specs.Steps.{Looks}
use Rattle.opc_store_schema.specs.Represented.{Represents, AreTablesOf}
use Rattle.opc_store.specs.Opening.{LeavesItself}
use Rattle.opc_store.specs.StoreTables.{IsShut, IsSure, store_meaning}

module _ {S : Type 0} (g : Ghosts S) (m : Meaning (Held S)) where
  -- If a crash can leave only one state, whatever trees it may leave are tables of that state: none are of another
  -- state, or of none.
  abbrev pub LeavesTables : Type 0
  LeavesTables = (h : Held S) (s : State) → ((left : State) → m.may_leave h left → left ≡ s) → IsSure g h
      → (trees : Trees) → (state g h).may_leave trees → ¬ ¬ AreTablesOf trees s

  -- If a crash leaves what is there, as after an opening, it can leave only the state that is there.
  abbrev pub LeavesWhatIsThere : Type 0
  LeavesWhatIsThere = (h : Held S) (s : State) → LeavesItself (state g h) → Represents (state g h).now s
      → (left : State) → m.may_leave h left → left ≡ s

-- A source over tables may be searched at any time. It has the profiles of the state that they represent, and its
-- answers count if the disk returned what was written.
pub record IsSourceOfState {S : Type 0} (g : Ghosts S) (has : Held S → List Profile → Type 0)
    (is_ready is_faithful : Held S → Type 0) : Type 0 where
  pub ready : (h : Held S) → is_ready h
  pub profiles : (h : Held S) (s : State) → Represents (state g h).now s → has h s.policy.profiles
  pub faithful : (h : Held S) → IsSure g h → is_faithful h

module _ {S : Type 0} (g : Ghosts S) where
  -- A load of closed tables returns a fault, and they stay closed: the clause on what it keeps states so,
  abbrev pub ShutTablesGiveNothing : (V E : Type 0) → Type 0
  ShutTablesGiveNothing V E = (old new : Held S) (result : Result V E) → Looks g old new result → IsSure g new
      → IsShut g old → IsErr result × IsShut g new

  -- and so does the clause on what it returns, if two states differ in what is loaded: closed tables count as those of
  -- both.
  abbrev pub ShutTablesReturnNothing : (V W E : Type 0) → Type 0
  ShutTablesReturnNothing V W E =
      (old new : Held S) (result : Result V E) (part : V → W) (asked : State → W)
      → Answers (store_meaning g) old new result (λ s v. part v ≡ asked s)
      → IsSure g new → IsShut g old → (s t : State) → asked s ≢ asked t → IsErr result

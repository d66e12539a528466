-- What a crash leaves at a request, or a fault of the disk that closes the tables, and what happens to the requests
-- after it.
use Rattle.std.specs.Prelude.{Bool, ◌⊎◌, ℕ, ⊤}
use Rattle.sqlite_disk.specs.declared.Disk as disk
use Rattle.sqlite_store.specs.declared.store.FileStore.{FileStore}
use Rattle.sqlite_trees.specs.declared.store.Store.{Ghosts}
use Rattle.sqlite_trees.specs.Tree.{Trees}
use Rattle.sqlite.specs.Held.{Held}
use Rattle.sqlite.specs.Recovery.{Image}
use Rattle.sqlite.specs.State.{HasCleanDisk}
use Rattle.sqlite.specs.Files.{over_files, file_state, HoldsDatabase}
use Rattle.opc_board.specs.declared.event.Event.TheVariants.{Resume}
use Rattle.opc_state.specs.State.{State}
use Rattle.opc_machine.specs.declared.request.Answer.{Answer}
use Rattle.opc_machine.specs.Inputs.{Input}
use Rattle.opc_machine.specs.Inputs as input
use Rattle.opc_machine.specs.Machine.{IsAborted, after, outcome}
use Rattle.opc_gate.specs.Handling.{IsHandled, LeavesAlone}
use Rattle.opc_store_schema.specs.Represented.{Represents, AreTablesOf}
use Rattle.opc_store.specs.StoreTables.{IsShut, IsSure, MayLeave, RepresentsIfOpen, store_meaning}
use Rattle.opc_store.specs.Opening.{IsOpenedAt}

-- A request that some state refuses: each but the event RESUME, which has the same answer in every state.
abbrev pub MayBeRefused : Input → Type 0
MayBeRefused (input.Event Resume) = ⊥
MayBeRefused other = ⊤

module _ {S : Type 0} (g : Ghosts S) where
  -- A gate over a store handled a request.
  abbrev pub IsHandledOver : (old new : Held S) → (moment : ℕ) → Input → Answer → Type 0
  IsHandledOver old new moment r answer =
      IsSure g new → (s : State) → RepresentsIfOpen g old s
      → IsHandled (store_meaning g) old new s moment r answer

  -- Closed tables stay closed, whatever the request, and a crash leaves nothing but what it would have left before.
  abbrev pub ShutTablesStay : Type 0
  ShutTablesStay =
      (old new : Held S) (moment : ℕ) (r : Input) (answer : Answer) → IsHandledOver old new moment r answer
      → IsSure g new → IsShut g old
      → IsShut g new × ((left : State) → MayLeave g new left → MayLeave g old left)

  -- A request to them is aborted.
  abbrev pub ShutTablesGiveUp : Type 0
  ShutTablesGiveUp =
      (old new : Held S) (moment : ℕ) (r : Input) (answer : Answer) → IsHandledOver old new moment r answer
      → IsSure g new → IsShut g old → MayBeRefused r → IsAborted answer

module _ {D : Type 0} (g : disk.Ghosts D) where
  -- Trees are tables of one of two states, and an opening of files that hold them finds that state.
  pub record AreOfOneOf (trees : Trees) (s next : State) : Type 0 where
    pub are : ¬ ¬ (AreTablesOf trees s ⊎ AreTablesOf trees next)
    pub found : (image : Image) → HoldsDatabase image trees → (are_made : Bool) → (again : Held (FileStore D g))
        → IsOpenedAt image are_made again → HasCleanDisk (file_state again)
        → ¬ ¬ (Represents (file_state again).now s ⊎ Represents (file_state again).now next)

  -- If a crash can leave only one state before a request, as after an opening or a change that is acknowledged, then
  -- whatever happens to the request, and to the tables, a crash leaves those of the state before it or of the state
  -- after it, as a whole.
  abbrev pub RequestsAreLeftWhole : Type 0
  RequestsAreLeftWhole =
      (old new : Held (FileStore D g)) (s : State) (moment : ℕ) (r : Input) (answer : Answer)
      → IsHandledOver over_files old new moment r answer
      → RepresentsIfOpen over_files old s → LeavesAlone (store_meaning over_files) old s → IsSure over_files new
      → (trees : Trees) → (file_state new).may_leave trees → AreOfOneOf trees s (after s moment r (outcome s r))

-- What is loaded of tables that represent a state.
use Rattle.std.specs.Prelude.{Result, IfOk}
use Rattle.opc_state.specs.Changes.{IsKept}
use Rattle.opc_state.specs.Meaning.{Meaning}
use Rattle.opc_state.specs.State.{State}

-- if the tables are sure, and represent a state, a success returns this of it
abbrev pub Answers : {T V E : Type 0} → Meaning T → T → T → Result V E → (State → V → Type 0) → Type 0
Answers m old new result asked = m.is_sure new → (s : State) → m.represents old s → IfOk result (asked s)

-- A load keeps what the tables mean, and if it succeeds, it returns this of the state.
pub record Loads {T V E : Type 0} (m : Meaning T) (old new : T) (result : Result V E)
    (asked : State → V → Type 0) : Type 0 where
  pub kept : IsKept m old new
  pub answers : Answers m old new result asked

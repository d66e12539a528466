-- What tables mean: which states they represent, now and after a crash.
use Rattle.opc_state.specs.State.{State}

pub record Meaning (T : Type 0) : Type 1 where
  -- the tables represent the state, as long as they are open
  pub represents : T → State → Type 0
  -- nobody else writes them, and the disk returns what was written
  pub is_sure : T → Type 0
  -- a crash may leave tables that represent the state
  pub may_leave : T → State → Type 0

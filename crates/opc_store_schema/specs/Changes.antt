-- What happens to the state that tables represent, and what a fault means.
use Rattle.sqlite.specs.Effect.{Database}
use Rattle.sqlite.specs.declared.error.Error.{Error}
use Rattle.sqlite.specs.declared.error.Error.TheVariants.{SqliteFailure}
use Rattle.sqlite.specs.declared.error.ErrorCode.TheVariants.{OutOfMemory}
use Rattle.opc_terms.specs.declared.store_fault.StoreFault.{StoreFault}
use Rattle.opc_terms.specs.declared.store_fault.StoreFault.TheVariants as fault
use Rattle.opc_state.specs.State.{State}
use Rattle.opc_store_schema.specs.Represented.{Represents}

-- one database represents what the other does, with the change
abbrev pub Becomes : (State → State) → Database → Database → Type 0
Becomes change old new = (s : State) → Represents old s → Represents new (change s)

abbrev pub fault_of : Error → StoreFault
fault_of (SqliteFailure OutOfMemory) = fault.NoMemory
fault_of _ = fault.Store

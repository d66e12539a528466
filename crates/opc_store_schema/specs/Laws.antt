-- What it means to represent a state.
use Rattle.std.specs.Prelude.{◌≡◌}
use Rattle.sqlite.specs.Effect.{Database}
use Rattle.sqlite_trees.specs.Tree.{Trees}
use Rattle.opc_state.specs.State.{State}
use Rattle.opc_store_schema.specs.Represented.{Represents, AreTablesOf}

-- Tables represent one state alone, on a connection and as an opening finds them.
pub record TablesDetermineTheState : Type 0 where
  pub found : (trees : Trees) (a b : State) → AreTablesOf trees a → AreTablesOf trees b → a ≡ b
  pub seen : (db : Database) (a b : State) → Represents db a → Represents db b → a ≡ b

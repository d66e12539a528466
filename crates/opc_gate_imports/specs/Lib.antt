pub use Rattle.opc_machine.specs.Imports
pub mod RowEdits
pub use Rattle.opc_machine.specs.Bootstrap

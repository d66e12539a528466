pub mod Handling
pub use Rattle.opc_gate_imports.specs.RowEdits
pub use Rattle.opc_machine.specs.Bootstrap
pub use Rattle.opc_machine.specs.Inputs
pub use Rattle.opc_machine.specs.Machine
pub use Rattle.opc_machine.specs.Outcome

pub mod Operations
pub use Rattle.opc_machine.specs.Administration
pub use Rattle.opc_machine.specs.Effects
pub use Rattle.opc_machine.specs.Rights

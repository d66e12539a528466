pub mod Acted
pub mod Named
pub use Rattle.opc_machine.specs.Commands
pub use Rattle.opc_machine.specs.Effects

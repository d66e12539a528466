pub mod Requester
pub mod Held
pub mod RulingBasis
pub mod Shared
pub use Rattle.opc_machine.specs.Rulings

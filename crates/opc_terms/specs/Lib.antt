pub mod Entries
pub mod Faults
pub mod Modes
pub mod Rules

pub mod Dropped
pub mod Remade
pub mod Renewed
pub mod Refilled

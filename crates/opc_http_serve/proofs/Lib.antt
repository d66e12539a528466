pub mod Clients
pub mod Coming
pub mod Held
pub mod Logged
pub mod Projecting

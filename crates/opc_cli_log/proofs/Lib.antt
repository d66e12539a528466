mod Accounted
mod Added
pub mod Logged
pub mod Unlogged

pub mod Each
pub mod Filtered
pub mod Orders
pub mod Places
pub mod Search

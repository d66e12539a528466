pub mod Access
pub mod Held
pub mod Members
pub mod Places
pub mod Profiles
pub mod Stored
pub mod Taken

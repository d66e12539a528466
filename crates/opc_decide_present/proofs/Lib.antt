pub mod Deciding
pub mod Refreshing

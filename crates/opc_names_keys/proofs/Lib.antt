pub mod Followed
pub mod Left

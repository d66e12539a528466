pub mod Keeping
pub mod StateNames

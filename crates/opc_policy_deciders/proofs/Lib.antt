pub mod Alone
pub mod Among
pub mod Between
pub mod BothSides
pub mod Candidate
pub mod Covering
pub mod Differing
pub mod Explained
pub mod Finding
pub mod Gathering
pub mod Listing
mod Parting
pub mod Refused
pub mod Standing

pub mod Growing
pub mod Joining
pub mod Naming
pub mod Footprints
pub mod Taken

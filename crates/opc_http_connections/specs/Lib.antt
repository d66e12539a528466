pub mod Timed
pub mod Draining
pub mod Links
pub mod Removing

pub mod Done
pub mod Idle
pub mod Masters
pub mod People
pub mod Permitting
pub mod Same

pub mod Held
pub mod UserLoads
pub mod ConnectLoads
pub mod EntryLoads
pub mod ProfileLoads
pub mod BatchLoads
pub mod VersionLoads
pub mod Found

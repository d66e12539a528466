pub mod Typed
pub mod Asked
pub mod Texts
pub mod Formed
pub mod Trying
pub mod Deciding
pub mod Worked
pub mod Examples

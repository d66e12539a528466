pub mod Allowed
pub mod Sessions
pub mod Lines
pub mod Loading
pub mod Typed
pub mod Units

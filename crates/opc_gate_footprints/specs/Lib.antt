pub mod Joined
pub mod BoardKeys
pub mod Loading

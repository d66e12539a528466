pub mod Authority
pub mod Laws
pub mod Names
pub mod Order
pub mod Padded
pub mod Patterns
pub mod Spellings
pub mod Walk

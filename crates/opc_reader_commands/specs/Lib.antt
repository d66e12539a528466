pub mod Quotes
pub mod Stretches

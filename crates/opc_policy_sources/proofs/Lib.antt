pub mod Given
pub mod Highest
pub mod SourceLevels
pub mod Raising
pub mod Searched
pub mod Patterns

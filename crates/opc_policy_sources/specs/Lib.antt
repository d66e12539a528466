pub mod Laws
pub mod SourceTexts
pub mod Sources
pub mod Levels

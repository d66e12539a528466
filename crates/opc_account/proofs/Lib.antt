pub mod Padded
pub mod Paged
mod Pages
pub mod KnownCodes
pub mod Filters
pub mod Stars

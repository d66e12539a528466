pub mod Gathered
pub mod InOrder
pub mod Shared
pub mod Sorting

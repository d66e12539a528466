pub mod Listed
pub mod Parts
pub mod Replacing
pub mod SameRows
pub mod Footprint

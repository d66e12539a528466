mod Distances
pub mod Pieces
mod Worked

pub mod Ends
pub mod Forms
pub mod Masks
pub mod Pieces
pub mod Witness

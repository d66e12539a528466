pub mod Allowed
pub mod Depths
pub mod NoFloats

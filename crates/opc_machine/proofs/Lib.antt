pub mod Inversion
pub mod SameBatches

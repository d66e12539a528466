pub mod Floats
pub mod Worked

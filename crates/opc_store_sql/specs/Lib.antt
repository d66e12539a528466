pub mod Rows
pub mod Order
pub mod Steps
pub mod Taken
pub mod Shapes

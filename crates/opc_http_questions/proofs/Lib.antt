pub mod Ids
pub mod Putting
pub mod StrictPoints

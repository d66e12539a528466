pub mod Copies
pub mod Site
pub mod Spare

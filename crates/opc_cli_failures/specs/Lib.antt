pub mod Escaped
pub mod Shown
pub mod Statuses
pub mod Printing

pub mod Handled
pub mod Running

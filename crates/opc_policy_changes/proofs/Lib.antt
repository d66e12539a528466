pub mod Boards
pub mod States

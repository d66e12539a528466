mod Apart
mod Keeping
mod Logs
mod Shutting
mod Readings
mod Answered
pub mod Done
mod Pieces

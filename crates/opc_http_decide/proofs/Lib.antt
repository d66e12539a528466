pub mod Responding
pub mod Sending

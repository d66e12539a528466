pub mod Answers
pub mod Passwords

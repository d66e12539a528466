mod Loaded
mod Numbered
pub mod Replies
pub mod Strictness

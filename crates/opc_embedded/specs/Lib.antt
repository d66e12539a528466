pub mod Words
pub mod Unanswered
pub mod Answers
pub mod Replies
pub mod Kept

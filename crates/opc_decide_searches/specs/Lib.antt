pub mod Asking
pub mod Candidates
pub mod Found
pub mod Pages
pub mod SearchReplies
pub mod Sought

pub mod DecisionLaws
pub mod DecisionValues
pub mod Decisions
pub mod Evaluated
pub mod Replies

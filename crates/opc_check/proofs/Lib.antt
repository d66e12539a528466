pub mod Agreeing
mod Alike
mod Following
mod Keeping
mod Marks
mod Named
mod Names
mod Quoting
mod RowLineSteps
pub mod Telling
pub mod Applying
mod Checking

mod Checks
mod InEffect
mod LastRows
mod Steps
mod Unmet
pub mod Asking
pub mod Deciders
mod Shown
mod Whole
mod Digits
mod Entering
mod Exported
mod WhoCounts
mod Formed

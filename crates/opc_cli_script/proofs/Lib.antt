pub mod Words
pub mod Numbers
pub mod Spelled
pub mod ReadBack
pub mod Written
pub mod Printing
pub mod Lines
pub mod Moments
pub mod Shown
pub mod Typing
pub mod Running
mod Listening
mod Steps
pub mod Turning
pub mod Taking
pub mod Viewing

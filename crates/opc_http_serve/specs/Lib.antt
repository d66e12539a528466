pub mod Moments
pub mod Passing
pub mod Coming
pub mod Arriving
pub mod Serving
pub mod Handled
pub mod Logging
pub mod Policies

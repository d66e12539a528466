pub mod Connected
pub mod Found
pub mod HeldIn
pub mod Named
pub mod Ruled
pub mod Together

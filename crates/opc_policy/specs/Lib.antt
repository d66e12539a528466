pub mod BasePolicy
pub mod Deciding
pub mod Examined
pub mod Explained
pub mod Laws
pub mod Rulings
pub mod Verdicts

pub mod Bare
pub mod BetweenLoads
pub mod FirstDeciding
pub mod SearchFound
pub mod SearchLoads

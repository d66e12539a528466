pub mod Uncached
pub mod Services
mod ServiceLogs
mod ServicePolicies
pub mod Prefixes
pub mod Endings
pub mod Kept
mod Logs
mod Unlogged
pub mod Answering
mod Tried
pub mod Decisions

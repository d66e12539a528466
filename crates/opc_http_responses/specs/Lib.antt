pub mod Bodies
pub mod Responses
pub mod Statuses

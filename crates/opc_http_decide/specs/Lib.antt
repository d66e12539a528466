pub mod Configurations
pub mod DecideLines
pub mod DecideResponses
pub mod DecideExchanges

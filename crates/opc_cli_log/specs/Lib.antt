pub mod RunLines
pub mod RunLogs

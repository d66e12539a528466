pub mod Files
pub mod Taking
mod Bytes
pub mod Parts
pub mod Named
mod OneRow
pub mod Places
pub mod Differences
mod Sheets

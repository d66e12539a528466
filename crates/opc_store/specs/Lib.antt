pub mod Opening
pub mod Reading
pub mod StoreTables
pub mod StoreLaws
pub mod Reopening

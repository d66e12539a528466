pub mod Codes
pub mod Filters
pub mod Lines
pub mod Queries
pub mod Asked
pub mod Laws
pub mod Printed

mod Showing
pub mod Escaping
pub mod Plain
pub mod Faults
pub mod Printed
pub mod Words

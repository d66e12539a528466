pub mod Mistakes
pub mod Numbers
pub mod Letters
pub mod Joining
pub mod Printed
pub mod Asked
pub mod CommandLine
pub mod Reading

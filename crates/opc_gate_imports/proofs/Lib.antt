pub mod Importing
pub mod SameLists
pub mod PolicyRows

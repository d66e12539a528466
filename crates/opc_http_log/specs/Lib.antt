pub mod Escapes
pub mod Laws
pub mod LogLines
pub mod Typed
pub mod Words

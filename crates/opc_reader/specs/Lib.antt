pub mod Authorities
pub mod Forms
pub mod Lines
pub mod Operands
pub mod Reading
pub mod Verbs

pub mod Allowed
pub mod PrintableText
pub mod Rules
pub mod Texts

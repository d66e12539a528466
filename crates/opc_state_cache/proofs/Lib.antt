pub mod Keyed
pub mod Named
pub mod Edits
pub mod KnownFlags
pub mod Right

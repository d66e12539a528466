pub mod Between
pub mod Decided
pub mod Forms
pub mod Kinds
pub mod Laws
pub mod Near
pub mod Pairs
pub mod Places

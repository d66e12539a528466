pub mod Exchange
pub mod Laws
pub mod Told
pub mod Trails

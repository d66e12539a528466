pub mod ClassLoads
pub mod ClassRows
pub mod ConnectLoads
pub mod ConnectRows
pub mod GroupLoads
pub mod GroupRows
pub mod UserLoads
pub mod UserRows

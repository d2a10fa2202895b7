pub mod Demand3
pub mod Gives
pub mod Contracts

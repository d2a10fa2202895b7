pub mod Handing
pub mod Demand3
pub mod Gives

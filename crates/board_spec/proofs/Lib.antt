pub mod Text
pub mod Runs
pub mod Files
pub mod Claims
pub mod Demand1

pub mod Text
pub mod Calls
pub mod Claims
pub mod Demand1
pub mod Runs

pub mod Runs
pub mod Now
pub mod Shares
pub mod Facts
pub mod Held

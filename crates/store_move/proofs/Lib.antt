pub mod Runs
pub mod Moved

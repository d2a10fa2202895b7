pub mod Decimals
pub mod Writes
pub mod Lines
pub mod Orders

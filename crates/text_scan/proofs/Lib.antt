pub mod Compared
pub mod Prefix
pub mod Walk

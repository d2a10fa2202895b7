pub mod Shares
pub mod Agree

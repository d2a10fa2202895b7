pub mod Stripes
pub mod Shares

pub mod Sums
pub mod Values

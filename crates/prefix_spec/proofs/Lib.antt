pub mod Best
pub mod Numbers
pub mod Pairs
pub mod Points
pub mod Text
pub mod Longest
pub mod Figures

pub mod Combinations
pub mod Laws
pub mod Figures

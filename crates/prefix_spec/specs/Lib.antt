pub mod Prefix
pub mod Laws
pub mod Figures

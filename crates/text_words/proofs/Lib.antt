pub mod Told
pub mod Figures

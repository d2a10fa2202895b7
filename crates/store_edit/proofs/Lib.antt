pub mod On
pub mod Whole

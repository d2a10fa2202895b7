pub mod Parts
pub mod Near
pub mod Rows

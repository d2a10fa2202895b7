pub mod Rows
pub mod Changed

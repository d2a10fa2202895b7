pub mod Steps
pub mod Handing

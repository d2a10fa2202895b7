pub mod Behind
pub mod Walk
pub mod Taken

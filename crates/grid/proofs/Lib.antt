pub mod Cleared
pub mod Kept

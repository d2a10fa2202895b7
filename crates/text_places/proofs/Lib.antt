pub mod Places
pub mod Pairs
pub mod Heads

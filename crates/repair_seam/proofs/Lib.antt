pub mod Places
pub mod Repaired

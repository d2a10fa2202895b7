pub mod Stripes
pub mod Turned

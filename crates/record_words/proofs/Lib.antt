pub mod Bits
pub mod Points
pub mod Places
pub mod Laws
pub mod Figures

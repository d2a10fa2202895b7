pub mod Sizing
pub mod Refusals
pub mod Laws

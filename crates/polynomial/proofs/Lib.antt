pub mod Poly
pub mod Linear
pub mod Grid
pub mod Sums
pub mod Laws

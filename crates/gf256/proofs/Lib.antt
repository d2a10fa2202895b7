-- Sums, Field, Ring and Inverses have the laws that other crates cite, and Laws has them as one record.
-- The rest serves the proofs of this crate. Assumes nothing.
pub mod Sums
pub mod Field
pub mod Ring
pub mod Inverses
pub mod Laws
mod Powers
mod Remainder

pub mod Given
pub mod Chain
pub mod Facts
pub mod Laws

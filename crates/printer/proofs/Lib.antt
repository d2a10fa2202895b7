pub mod Fed
pub mod Forms
pub mod Near
pub mod Rest
pub mod Room
pub mod Whole
pub mod Laws

pub mod Others
pub mod Without

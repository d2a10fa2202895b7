pub mod Legal
pub mod Lines
pub mod Laws
pub mod Orders
pub mod Alike

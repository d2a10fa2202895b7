pub mod Rooms
pub mod Telling
pub mod Laws

pub mod Tests
pub mod Alls
pub mod Boards
pub mod Pieces
pub mod Put
pub mod Laws

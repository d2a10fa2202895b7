pub mod Picks
pub mod Fed
pub mod Forms
pub mod Capped
pub mod Onward
pub mod Laws
pub mod Figures

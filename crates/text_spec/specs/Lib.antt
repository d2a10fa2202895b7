pub mod Texts
pub mod Calls
pub mod Laws
pub mod Demand1
pub mod Figures

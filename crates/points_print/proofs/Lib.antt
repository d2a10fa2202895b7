pub mod Forms
pub mod Back
pub mod Laws
pub mod Figures

pub mod Trial
pub mod Laws
pub mod Figures
pub mod DrawLaws

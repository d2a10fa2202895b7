pub mod RepairWords
pub mod Laws
pub mod Figures

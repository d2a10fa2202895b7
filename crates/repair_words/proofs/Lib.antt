pub mod RepairWords
pub mod Figures

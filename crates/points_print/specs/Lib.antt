pub mod PointsPrinter
pub mod Laws
pub mod Figures

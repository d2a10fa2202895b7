pub mod ByRows
pub mod Partners
pub mod Rebuilt
pub mod Turn

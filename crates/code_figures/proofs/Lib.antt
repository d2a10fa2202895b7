pub mod CodeFigures
pub mod BoardFigures

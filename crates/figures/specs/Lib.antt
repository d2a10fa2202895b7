pub mod MarkedFigures
pub mod LongFigures

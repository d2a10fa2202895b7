pub mod LedgerFigures
pub mod StepFigures
pub mod MixFigures
pub mod LaterFigures

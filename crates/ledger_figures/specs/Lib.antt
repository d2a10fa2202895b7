pub mod LedgerFigures
pub mod RepairFigures
pub mod StepFigures
pub mod MixFigures
pub mod LaterFigures

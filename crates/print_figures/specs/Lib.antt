pub mod PrinterFigures

pub mod ArchiveFigures

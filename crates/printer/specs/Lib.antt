pub mod Printer
pub mod Steps
pub mod Laws

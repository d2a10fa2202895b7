pub mod Repairable

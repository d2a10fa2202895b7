pub mod Words71

pub mod Stripes
pub mod Serving
pub mod Zeros
pub mod Edited

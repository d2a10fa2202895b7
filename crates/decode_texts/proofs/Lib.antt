pub mod ByStripes

pub mod Walks
pub mod Sound
pub mod Repairs
pub mod Ready

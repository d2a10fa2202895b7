pub mod WornLaws
pub mod TurnListLaws
pub mod Stepped
pub mod Follows

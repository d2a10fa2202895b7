pub mod Answers
pub mod Points
pub mod Joined

pub mod TurnListLaws
pub mod Still
pub mod Stepped
pub mod SteppedLists
pub mod Worn
pub mod Follows

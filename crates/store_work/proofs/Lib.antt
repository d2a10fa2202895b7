pub mod Settled
pub mod Readable
pub mod ReadCall
pub mod CarefulCall
pub mod RepairCall
pub mod EditCall
pub mod MoveCall
pub mod StepCall

pub mod Beside
pub mod BothCalls
pub mod HandedLaws
pub mod AloneLaws
pub mod BesideLaws
pub mod Carried
pub mod Laid
pub mod StepLaws

pub mod StepWays
pub mod Keeps
pub mod StopNumbers

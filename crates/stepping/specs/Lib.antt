pub mod Rules
pub mod Step
pub mod Ready
pub mod Stops

pub mod Limits
pub mod Base
pub mod Slots
pub mod Sound
pub mod Holds

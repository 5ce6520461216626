pub mod Loads
pub mod Examples
pub mod AnyLength

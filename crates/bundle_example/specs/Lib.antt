pub mod Leaf
pub mod Cases
pub mod Loads

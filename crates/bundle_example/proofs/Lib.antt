pub mod Digests
pub mod Cases
pub mod Loads

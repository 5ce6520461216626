pub mod Rfc3629
pub mod Check
pub mod State
pub mod Meaning

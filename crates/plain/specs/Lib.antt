pub mod Run
pub mod Answer
pub mod Told
pub mod Named
pub mod Meaning
pub mod Cases

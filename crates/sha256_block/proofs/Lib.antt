pub mod Words
pub mod FourRounds
pub mod Blocks
pub mod Padding
pub mod Constants
pub mod Digest

pub mod Views
pub mod Steps
pub mod Tally
pub mod Laid
pub mod Pigeon
pub mod Circles
pub mod Turns

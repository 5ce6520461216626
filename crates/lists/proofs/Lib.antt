pub mod Same
pub mod Index
pub mod Tests
pub mod Some
pub mod Filled

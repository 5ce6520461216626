pub mod Fips180
pub mod Constants

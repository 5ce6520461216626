pub mod Header
pub mod Directory
pub mod Survey
pub mod Checks

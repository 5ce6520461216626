pub mod Checks
pub mod Verdict
pub mod Exports

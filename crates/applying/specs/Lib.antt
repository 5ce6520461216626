pub mod Rules
pub mod Apply
pub mod Fit

pub mod RuleLaws
pub mod Depth
pub mod Keeps
pub mod Ways

pub mod Report
pub mod Writing

pub mod Accepted
pub mod Load
pub mod Answer
pub mod Admit
pub mod Ready

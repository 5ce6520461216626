pub mod Refusals
pub mod Accepting
pub mod Loading

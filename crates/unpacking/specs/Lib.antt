pub mod Written
pub mod Ready

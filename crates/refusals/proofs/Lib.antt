pub mod Rows
pub mod Choice
pub mod Laws
pub mod Outcomes

pub mod Answers
pub mod Meaning

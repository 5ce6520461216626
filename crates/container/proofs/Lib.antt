pub mod HeaderLaws
pub mod Entries
pub mod Surveys
pub mod Stages

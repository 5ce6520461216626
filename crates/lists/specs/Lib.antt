pub mod Options
pub mod Lists
pub mod Among

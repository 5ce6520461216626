pub mod Numbers
pub mod Refusals
pub mod Laws

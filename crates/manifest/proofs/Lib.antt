pub mod Lists
pub mod ExportLists
pub mod Shaped
pub mod Places
pub mod Names
pub mod Counted

pub mod Lines
pub mod Exports
pub mod ExportLines

pub mod NodeLaws
pub mod Placements
pub mod Writing
pub mod ExportLaws
pub mod Naming

pub mod Stages
pub mod Verdicts
pub mod ManifestRows
pub mod NodeRows
pub mod NameParts
pub mod ExportWays
pub mod ExportsRead

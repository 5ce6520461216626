pub mod Cases
pub mod CarryCases
pub mod DriveWays
pub mod AdmissionLaws
pub mod CallWays
pub mod Named
pub mod Told

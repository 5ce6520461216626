pub mod Admission
pub mod Run
pub mod Answer
pub mod Told
pub mod Named
pub mod Cases
pub mod CarryCases

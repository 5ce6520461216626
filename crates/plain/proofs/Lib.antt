pub mod CallWays
pub mod Sim
pub mod PlainIsRun
pub mod Named
pub mod TooDeep
pub mod Cases
pub mod Told

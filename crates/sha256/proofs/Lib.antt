pub mod Filling
pub mod Buffering
pub mod Absorbing
pub mod Finishing
pub mod Clients

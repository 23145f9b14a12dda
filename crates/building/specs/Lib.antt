-- Reading order: as listed.
pub mod Building
pub mod Calls
pub mod Told
pub mod Computing
pub mod Examples

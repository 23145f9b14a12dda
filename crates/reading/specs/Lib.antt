-- Reading order: as listed.
pub mod Readings
pub mod Refusals
pub mod Calls
pub mod Answers
pub mod Computing
pub mod Examples

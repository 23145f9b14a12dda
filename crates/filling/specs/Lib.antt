-- Reading order: as listed.
pub mod Tables
pub mod Constraints
pub mod Refusals
pub mod Calls
pub mod Answers
pub mod Promise
pub mod Computing
pub mod Examples

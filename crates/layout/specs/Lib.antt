-- Reading order: as listed, after arithmetic's Base and Extension.
pub mod Lists
pub mod Words
pub mod Tree
pub mod NotCircuit
pub mod Lifted
pub mod Outcomes
pub mod Calls
pub mod Refusals
pub mod Answers
pub mod Cycle
pub mod Computing
pub mod Samples
pub mod Examples

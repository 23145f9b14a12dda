-- Reading order: as listed.
pub mod Results
pub mod Grown
pub mod Invariants
pub mod Promise
pub mod Order
pub mod Evaluated
pub mod Fills
pub mod Traces
pub mod Reached
pub mod Outcomes
pub mod Examples
pub mod Refusals

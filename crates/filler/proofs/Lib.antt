-- The laws behind the proofs of this crate: instructions and what they do, the order of the nodes, the plan, the stores, the row.
pub mod Runs
pub mod Instructions
pub mod Inputs
pub mod Ranks
pub mod Plans
pub mod Stores
pub mod Rowings
pub mod Says
pub mod Targeting
pub mod Prepares
pub mod Fixes
pub mod Eachs
pub mod Outcomes

-- What the proofs of several functions, and the layers above, use.
pub mod Making
pub mod Growing
pub mod Stepping
pub mod Runs
pub mod Saving
pub mod Undoing

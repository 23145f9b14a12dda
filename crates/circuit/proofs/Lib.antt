-- What the proofs of several functions, and the layers above, use.
pub mod Places
pub mod Marks
pub mod Visits
pub mod Orders
pub mod Checks

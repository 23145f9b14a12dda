-- What the proofs of several functions, and the layers above, use.
pub mod Sums
pub mod Walks
pub mod Uses
pub mod Counts
pub mod Below
pub mod Written
pub mod Lengths
pub mod Stacks
pub mod Inserts
pub mod Gathers
pub mod Calls

-- What the proofs of several functions, and the layers above, use.
pub mod Lists
pub mod Tables
pub mod Degrees
pub mod Along
pub mod Bases
pub mod Values
pub mod Highest
pub mod Lent
pub mod Seen

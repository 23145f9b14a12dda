-- What the proofs of several functions use.
pub mod Passing
pub mod Signed
pub mod Once

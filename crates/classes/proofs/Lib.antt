-- What the proofs of several functions, and the layers above, use.
pub mod Words
pub mod Chains
pub mod Numbering
pub mod Firsts
pub mod Shapes
pub mod Agree
pub mod Finding

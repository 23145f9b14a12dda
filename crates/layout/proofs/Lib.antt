-- What the proofs of several functions, and the layers above, use.
pub mod Tests
pub mod Lists
pub mod Valid
pub mod Trees
pub mod Lifted
pub mod Refusals
pub mod Unique
pub mod Cycle

-- What the proofs of several functions use.
pub mod Fitting
pub mod Tested
pub mod Cells
pub mod Turns
pub mod Operands
pub mod Few
pub mod Columns
pub mod Reaches
pub mod Ready
pub mod Listings
pub mod BothLists

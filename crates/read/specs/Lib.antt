-- What the inner functions ask and give. What the calls answer is the crate reading.
pub mod Tables
pub mod Passes
pub mod Rooted
pub mod Degrees
pub mod Bases
pub mod Values
pub mod Lent
pub mod Marks

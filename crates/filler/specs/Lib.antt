-- What the inner functions ask and give. What the calls answer is the crate filling.
pub mod Running
pub mod Planning
pub mod Ordering
pub mod Ranking
pub mod Rowing
pub mod Preparing
pub mod Filling

-- For the inner functions: the rank, then the walk that finds it.
pub mod Rank
pub mod Walk

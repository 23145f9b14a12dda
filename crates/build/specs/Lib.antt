-- What the inner forms ask and give.
pub mod Inner
pub mod Saved

-- What the inner functions ask and give. What the calls answer is the crate walking.
pub mod Counting
pub mod Walking
pub mod Rising

-- What the inner functions ask and give. What the calls answer is the crate filling.
pub mod Listing
pub mod Columned
pub mod Given
pub mod Beside
pub mod Forms
pub mod Reaching
pub mod Targets

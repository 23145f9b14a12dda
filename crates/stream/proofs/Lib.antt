pub mod Streaming
pub mod Gathering
pub mod Feeding
pub mod Long
pub mod Whole

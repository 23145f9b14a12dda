-- How an answer is written. What it is, is the crate framing.
pub mod Puts

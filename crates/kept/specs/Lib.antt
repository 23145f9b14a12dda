-- Class tables that are kept.
pub mod Keeps

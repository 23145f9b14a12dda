pub mod Endings
pub mod Wording

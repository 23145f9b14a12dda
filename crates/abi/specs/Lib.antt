-- Reading order: as listed.
pub mod Answers
pub mod Numbers

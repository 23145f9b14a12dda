-- What is asked where a line is answered.
pub mod Reading
pub mod Rows
pub mod Kinds
pub mod Feeds

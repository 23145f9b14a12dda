-- Reading order: Words, Desks, Lines, Program; then the examples.
pub mod Words
pub mod Desks
pub mod Lines
pub mod Program
pub mod Computing
pub mod Examples

pub mod Hexadecimal
pub mod Reading
pub mod Writing
pub mod Responding

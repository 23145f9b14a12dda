pub mod Words
pub mod Folds
pub mod Board

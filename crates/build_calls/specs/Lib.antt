-- What is left of a call once its tests have passed.
pub mod Answers
pub mod Leaves

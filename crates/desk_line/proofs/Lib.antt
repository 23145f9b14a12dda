-- Laws of words in tables and in answers, of how wide rows are, of challenges, and of a row that is filled.
pub mod Cells
pub mod Texts
pub mod Widths
pub mod Challenges
pub mod Fills
pub mod Lines
pub mod Longest
pub mod Feeding

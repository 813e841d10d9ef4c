pub mod Fills
pub mod Answers

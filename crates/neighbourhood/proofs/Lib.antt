pub mod Slots
pub mod Steps
pub mod Empty
pub mod Entries
pub mod Answers

pub mod Finder
pub mod Parts

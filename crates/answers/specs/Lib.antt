pub mod Runs
pub mod Reader
pub mod Told
pub mod Writer
pub mod Sizes
pub mod Rules
pub mod Lengths

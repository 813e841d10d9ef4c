pub mod Packed
pub mod Walk

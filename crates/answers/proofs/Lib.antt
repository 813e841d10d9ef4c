-- Laws that several proofs cite.
pub mod Walk
pub mod Stored
pub mod Held
pub mod Back
pub mod Again
pub mod Prefix
mod Examples

pub mod Read
pub mod Step

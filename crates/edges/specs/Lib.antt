pub mod Edge
pub mod Back

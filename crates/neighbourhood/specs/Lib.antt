pub mod Neighbourhood
pub mod Slots
pub mod Fill
pub mod Right

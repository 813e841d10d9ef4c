pub mod Windows
pub mod Fill
pub mod Right

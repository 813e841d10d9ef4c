pub mod Calls
pub mod Numbers
pub mod Fit
pub mod Segment
pub mod Prefix
pub mod Program

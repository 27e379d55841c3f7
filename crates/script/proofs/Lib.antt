pub mod Turns
pub mod Counts
pub mod Only
pub mod Back
pub mod Whole
pub mod Exact

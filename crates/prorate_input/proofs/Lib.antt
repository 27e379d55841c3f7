pub mod Steps
pub mod Fields
pub mod Exact

pub mod Due
pub mod Clearing

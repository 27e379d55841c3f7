pub mod Added
pub mod Pots
pub mod Changed

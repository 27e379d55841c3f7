pub mod Kinds
pub mod History
pub mod Law

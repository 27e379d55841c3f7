pub mod Entries
pub mod Made

pub mod Units
pub mod Points
pub mod Accounts
pub mod Tables
pub mod Rows
pub mod FirstRows

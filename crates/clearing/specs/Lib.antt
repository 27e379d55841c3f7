pub mod Refusals
pub mod Payments
pub mod Clearing

pub mod Words
pub mod Lines
pub mod Texts
pub mod Held
pub mod Scripts
pub mod Payments
pub mod Messages

pub mod Reading
pub mod Meaning
pub mod Texts
pub mod Messages

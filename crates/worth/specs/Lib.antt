-- What has to be believed of the crate: the formulas of docs/WORTH.md, their limits, and the laws above them.
pub mod Families
pub mod Performances
pub mod Quotients
pub mod Limits
pub mod Lines
pub mod Installations
pub mod Sheddings
pub mod Laws

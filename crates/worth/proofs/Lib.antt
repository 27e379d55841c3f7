-- Lemmas behind a line's worth: its laws, and that the products of its formulas fit.
pub mod Lawful
pub mod Products

-- What the proofs of this crate's functions, and of its callers, cite.
pub mod Letters
pub mod Rows
pub mod Same
pub mod Distinct
pub mod Integers
pub mod Units

-- What the words of a ledger keep, for the proofs of this crate's functions and of its callers.
pub mod Shelves
pub mod Keeping
pub mod Delays
pub mod Roles
pub mod Judging

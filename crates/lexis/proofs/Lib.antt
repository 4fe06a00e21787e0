-- What the proofs of this crate's functions, and of its callers, cite.
pub mod Classes
pub mod Walks
pub mod Bounds
pub mod Lexemes
pub mod Scans
pub mod Names

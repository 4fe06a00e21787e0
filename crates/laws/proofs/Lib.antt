-- Lemmas that the proofs of several crates cite.
pub mod Lists
pub mod Parts
pub mod Picks
pub mod Ranges
pub mod Table
pub mod Tags
pub mod Cases
pub mod Deciding

-- What the proofs of this crate's functions cite, and that no second outcome of a call fits.
pub mod Numbers
pub mod Texts
pub mod Once

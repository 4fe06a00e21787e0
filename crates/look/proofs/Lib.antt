-- What a token's number says, for the proofs of this crate's functions and of its callers.
pub mod Looks
pub mod Numbers
pub mod Tokens

-- What callers may lean on: a design's roles are its tokens', what the fold decides, the sizes of an accepted design's circuit, and the numbers and places of refusals.
pub mod Tokens
pub mod Verdict
pub mod Operands
pub mod Kept
pub mod Sizes
pub mod Answer
pub mod Texts
pub mod Places

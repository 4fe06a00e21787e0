-- Laws of the header.
pub mod Rows
pub mod OneOutcome
pub mod Sizes

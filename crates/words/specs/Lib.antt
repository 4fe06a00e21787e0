-- Tokens, and what a run of letters, digits and underscores says.
pub mod Token
pub mod Unit
pub mod Integer
pub mod Vocabulary
pub mod Inside

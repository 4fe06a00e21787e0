-- The sixteen reasons of a refusal and their numbers.
pub mod Numbers

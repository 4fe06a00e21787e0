-- What start and advance promise over lent words.
pub mod Lent
pub mod Inside

-- What the readers of a text answer.
pub mod Answers
pub mod Tabled
pub mod Inside

-- Laws of every reader.
pub mod Moves
pub mod Judging
pub mod Words
pub mod Generic

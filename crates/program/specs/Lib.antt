-- What a program is given.
pub mod Given

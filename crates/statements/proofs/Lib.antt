-- Laws of the readers of statements.
pub mod Returns

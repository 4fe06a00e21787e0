-- Laws of the readers of expressions.
pub mod Expressions

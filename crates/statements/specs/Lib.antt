-- What the readers of statements answer. No public contract of the product names a definition of this crate.
pub mod Inside

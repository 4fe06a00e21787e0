-- What the readers of a text answer. No public contract of the product names a definition of this crate.
pub mod Inside
